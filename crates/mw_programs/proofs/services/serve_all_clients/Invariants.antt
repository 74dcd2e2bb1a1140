-- Loop invariants of `serve_all_clients` (src/services.rt).
use Rattle.mw_service.specs.TokenTables.{table_of}
use Rattle.mw_programs.proofs.services.serve_all_clients.Given as goal

-- the borrowers' tokens are of the table that was made
abbrev pub ghosts-serve_borrowers : goal.ghosts-serve_borrowers
ghosts-serve_borrowers g a = record { table = table_of a.made }
