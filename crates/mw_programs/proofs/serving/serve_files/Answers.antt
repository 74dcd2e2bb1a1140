-- Goals of `serve_files` (src/serving.rt).
use Rattle.std.proofs.Common.{rules}
use Rattle.std.proofs.lemmas.Result.{on_ok_weaker}
use Rattle.mw_engine.specs.Parts.{identity_of}
use Rattle.mw_programs.proofs.serving.serve_files.Goals as goal

-- the engine begins with the files that the start opened, for the lines that it read
pub serve_engine-requires-clause-promise : goal.serve_engine-requires-clause-promise
serve_engine-requires-clause-promise g c κs within =
    let start = c.in_ok-opened.ensures.opened in
    c.requires.promise (identity_of c.in_ok-parts.parts) (record {
      lines = c.args.setup.now.lines.items;
      read = c.requires.read;
      files = start.files;
      opened = rw (← c.deref.ensures.0) start.opened;
      named = search rules;
      configured = search rules;
      begins = search rules;
      disks = search rules;
    })

-- that engine ran the script
pub returns : goal.returns
returns g c =
    let start = c.in_ok-opened.ensures.opened in
    record {
      script = λ path is. on_ok_weaker c.serve_engine.result (λ run. record {
        identity = identity_of c.in_ok-parts.parts;
        start = record {
          lines = c.args.setup.now.lines.items;
          read = c.requires.read;
          files = start.files;
          opened = rw (← c.deref.ensures.0) start.opened;
          named = search rules;
          configured = search rules;
          begins = search rules;
          disks = search rules;
        };
        run = run;
      }) (c.serve_engine.ensures.script path is);
    }
