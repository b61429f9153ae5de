-- View of code: what is known of structs and unions once they are declared, each after those that its members are.
use Rattle.std.specs.Borrow.{Bor}
use Rattle.std.specs.Map.{lookup}
use Rattle.std.specs.Prelude.{Bool, List, None, Option, Some, bytes_eq, false, is_some, map, option_map, true, ℕ}
use Rattle.source_meaning.specs.Shapes.{may_be_null}
use Rattle.source_typing.specs.Types.{Char, Fat, Int, Key, StaticType, Struct, Thin, Union, Unique, Unsigned}
use Rattle.cyc_types.specs.Tags.{named_tag, tag_of}
use Rattle.cyc_types.specs.declared.tag.Known.{Known}
use Rattle.cyc_types.specs.declared.tag.Tag.{Tag}
use Rattle.source_typing.specs.Tables as rules

-- structs and unions by their names, the earliest first
abbrev pub Entry : Type 0
Entry = Bor (List ℕ) × Known

abbrev pub named_by : Entry → rules.Named
named_by e = named_tag e.0.now e.1.tag

abbrev pub entries_of : List Entry → rules.Tables
entries_of es = map named_by es

abbrev pub found : List Entry → List ℕ → Option Known
found es x = lookup (λ key. bytes_eq x key.now) es

-- a tag that was looked up
abbrev pub known_tag : List ℕ → Option (Bor Tag) → Option rules.Tag
known_tag x t = option_map (λ t. tag_of x t.now) t

-- ---- what is copied, and what has a beginning, by what is known of structs

-- what is known of a tag; of one that isn't declared it holds
abbrev pub flag_if : (Known → Bool) → Option Known → Bool
flag_if flag None = true
flag_if flag (Some k) = flag k

abbrev pub quick_copies : List Entry → StaticType → Bool
quick_copies es (Unique n t) = false
quick_copies es (Key r) = false
quick_copies es (Struct tag rs) = flag_if (λ k. k.copyable) (found es tag)
quick_copies es t = true

abbrev pub quick_begins : List Entry → StaticType → Bool
quick_begins es Int = true
quick_begins es Unsigned = true
quick_begins es Char = true
quick_begins es (Thin b r t) = may_be_null b
quick_begins es (Unique b t) = b
quick_begins es (Fat r t) = true
quick_begins es (Struct tag rs) = flag_if (λ k. k.begins) (found es tag)
quick_begins es t = false

-- ---- in order

-- a struct or union is declared where it is used by value
abbrev pub is_declared : List Entry → StaticType → Bool
is_declared es (Struct tag rs) = is_some (found es tag)
is_declared es (Union tag rs) = is_some (found es tag)
is_declared es t = true

-- the same by the rules' tables
abbrev pub has_declared : rules.Tables → StaticType → Bool
has_declared g (Struct tag rs) = is_some (rules.tag_in g tag)
has_declared g (Union tag rs) = is_some (rules.tag_in g tag)
has_declared g t = true
