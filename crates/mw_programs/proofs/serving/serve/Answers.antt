-- Goals of `serve` (src/serving.rt).
use Rattle.std.specs.Prelude.{Result, Ok, Err, IsOk, OnOk}
use Rattle.mw_programs.proofs.serving.serve.Goals as goal

of_ok : {X E : Type 0} (r : Result X E) (P : Type 0) → IsOk r → OnOk r P → P
of_ok (Ok x) P is holds = holds
of_ok (Err e) P is holds = absurd (cc)

-- the arguments are those that the words ask for
pub serve_args-ended-requires-clause-promise : goal.serve_args-ended-requires-clause-promise
serve_args-ended-requires-clause-promise g c κs within identity start = c.requires.promise identity (record { args = c.in-Ok.args; asked = c.in-Ok.ensures.asked; start = start })

-- words that clap takes are not refused
pub returns-in-Err : goal.returns-in-Err
returns-in-Err g c = record { script = λ well taken. absurd (c.in-Err.ensures.taken taken (c.refuse.ensures well)) }

-- the arguments that the words ask for were served
pub returns : goal.returns
returns g c = record {
  script = λ well taken. record {
    args = c.in-Ok.args;
    asked = c.in-Ok.ensures.asked;
    script = λ path is. of_ok c.serve_args-ended.result _ (c.status_of-status.ensures well) (c.serve_args-ended.ensures.script path is);
  };
}
