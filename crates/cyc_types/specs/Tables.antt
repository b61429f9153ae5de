-- View of code: the structs and unions of a program in code, as the rules say them.
use Rattle.cyc_types.specs.Known.{entries_of}
use Rattle.cyc_types.specs.declared.tables.Tables.{Tables}
use Rattle.source_typing.specs.Tables as rules

abbrev pub tables_of : Tables → rules.Tables
tables_of t = entries_of t.tags.entries
