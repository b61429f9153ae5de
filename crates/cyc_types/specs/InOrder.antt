-- View of code: structs and unions in the order of their declarations, with what is known of each.
use Rattle.std.specs.Prelude.{Bool, List, is_none, true, ℕ, ◌&&◌, [], ◌∷◌, ◌++◌}
use Rattle.source_typing.specs.Tables.{each_part}
use Rattle.source_typing.specs.Types.{same_bool}
use Rattle.cyc_types.specs.Known.{Entry, found, is_declared, quick_begins, quick_copies}
use Rattle.cyc_types.specs.Measures.{quick_tag, same_measure, stored}
use Rattle.cyc_types.specs.Tags.{members_of}
use Rattle.cyc_types.specs.declared.tag.Known.{Known}

-- a new name, members that are declared before it, and what is known of it
abbrev pub is_known : List Entry → List ℕ → Known → Bool
is_known before x k =
    is_none (found before x)
    && each_part (is_declared before) (members_of k.tag.members.items)
    && same_bool k.copyable (each_part (quick_copies before) (members_of k.tag.members.items))
    && same_bool k.begins (each_part (quick_begins before) (members_of k.tag.members.items))
    && same_measure (stored k) (quick_tag before k.tag)

abbrev pub are_known : List Entry → List Entry → Bool
are_known before [] = true
are_known before (e ∷ es) = is_known before e.0.now e.1 && are_known (before ++ e ∷ []) es
