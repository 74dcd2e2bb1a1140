-- Goals of `damage_byte` (src/damaged.rt).
use Rattle.std.proofs.Common.{inl, inr}
use Rattle.mw_record.specs.declared.damages.Damage.TheVariants.{Overlap, Record, SecondLayout, Sizes, Value}
use Rattle.mwshow.proofs.Parts.{head_in_use, head_of, sizes_of}
use Rattle.mwshow.proofs.damaged.damage_byte.Goals as goal

pub second_byte-requires : goal.second_byte-requires
second_byte-requires c = head_of c.args.bytes.now c.args.damage SecondLayout c.requires c.in-SecondLayout.is tt

pub sizes_byte-requires-clause-long : goal.sizes_byte-requires-clause-long
sizes_byte-requires-clause-long c = head_of c.args.bytes.now c.args.damage Sizes c.requires c.in-Sizes.is tt

pub sizes_byte-requires-clause-head : goal.sizes_byte-requires-clause-head
sizes_byte-requires-clause-head c = head_in_use c.args.bytes.now c.args.damage Sizes c.requires c.in-Sizes.is tt

pub sized-requires-clause-long : goal.sized-requires-clause-long
sized-requires-clause-long c =
    elim c.in-Record.is [
      | inl is_record ↦ head_of c.args.bytes.now c.args.damage Record c.requires is_record tt
      | inr is_overlap ↦ head_of c.args.bytes.now c.args.damage Overlap c.requires is_overlap tt
    ]

pub sized-requires-clause-sized : goal.sized-requires-clause-sized
sized-requires-clause-sized c =
    elim c.in-Record.is [
      | inl is_record ↦ sizes_of c.args.bytes.now c.args.damage Record c.requires is_record tt
      | inr is_overlap ↦ sizes_of c.args.bytes.now c.args.damage Overlap c.requires is_overlap tt
    ]

pub sized-requires-in-Value-clause-long : goal.sized-requires-in-Value-clause-long
sized-requires-in-Value-clause-long c = head_of c.args.bytes.now c.args.damage Value c.requires c.in-Value.is tt

pub sized-requires-in-Value-clause-sized : goal.sized-requires-in-Value-clause-sized
sized-requires-in-Value-clause-sized c = sizes_of c.args.bytes.now c.args.damage Value c.requires c.in-Value.is tt
