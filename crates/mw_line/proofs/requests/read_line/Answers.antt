-- Goals of `read_line` (src/requests.rt).
use Rattle.mw_line.proofs.Faults.{is_answered, is_read, is_refused, job_fits}
use Rattle.mw_line.proofs.requests.read_line.Goals as goal

pub returns : goal.returns
returns c =
    let line = c.args.line.now in
    let read = is_read line c.request_of.result c.request_of.ensures in
    record {
      read = read;
      fits = job_fits line c.request_of.result read;
      answered = is_answered line c.request_of.result c.request_of.ensures;
      not_a_command = is_refused line c.request_of.result c.request_of.ensures;
    }
