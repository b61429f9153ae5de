-- Believed: what is printed of a fault.
use Rattle.std.specs.Prelude.{ℕ, List, ◌++◌, Option, Some, None, codes}
use Rattle.std.specs.Fmt.{decimal}
use Rattle.cycc_driver.specs.declared.fault.Place.{Place}
use Rattle.cycc_driver.specs.declared.fault.CompileFault.{CompileFault}
use Rattle.cycc_driver.specs.declared.fault.CompileFault.TheVariants as fault

-- a fault's name
abbrev pub printed_name : CompileFault → List ℕ
printed_name (fault.Lex place) = codes "Lex"
printed_name (fault.Parse place) = codes "Parse"
printed_name (fault.TooDeep place) = codes "TooDeep"
printed_name (fault.Name place) = codes "Name"
printed_name (fault.Typing place) = codes "Type"
printed_name (fault.Region place) = codes "Region"
printed_name (fault.Outlives place) = codes "Outlives"
printed_name (fault.Effect place) = codes "Effect"
printed_name (fault.Consumed place) = codes "Consumed"
printed_name (fault.Lent place) = codes "Lent"
printed_name (fault.Copy place) = codes "Copy"
printed_name (fault.Size place) = codes "Size"
printed_name (fault.TooLarge place) = codes "TooLarge"
printed_name fault.Memory = codes "Memory"

-- where it stands; nowhere if memory is out
abbrev pub fault_place : CompileFault → Option Place
fault_place (fault.Lex place) = Some place
fault_place (fault.Parse place) = Some place
fault_place (fault.TooDeep place) = Some place
fault_place (fault.Name place) = Some place
fault_place (fault.Typing place) = Some place
fault_place (fault.Region place) = Some place
fault_place (fault.Outlives place) = Some place
fault_place (fault.Effect place) = Some place
fault_place (fault.Consumed place) = Some place
fault_place (fault.Lent place) = Some place
fault_place (fault.Copy place) = Some place
fault_place (fault.Size place) = Some place
fault_place (fault.TooLarge place) = Some place
fault_place fault.Memory = None

-- the line of a fault: its place and its name
abbrev pub fault_line : Option Place → List ℕ → List ℕ
fault_line (Some place) name = decimal place.line ++ codes ":" ++ decimal place.column ++ codes ": " ++ name
fault_line None name = codes "out of memory"

abbrev pub fault_text : CompileFault → List ℕ
fault_text f = fault_line (fault_place f) (printed_name f)
