-- Defines which table of request tokens a new one is. Used by: mw_programs.
use Rattle.atomic_table.specs.Seated.{TableId}
use Rattle.mw_service.specs.declared.request_tokens.NewTokenTable.{NewTokenTable}

abbrev pub table_of : NewTokenTable → TableId
table_of made = made.table.shared.table_id
