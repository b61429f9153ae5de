-- View of code: the structs and unions that the names of a program mean.
use Rattle.std.specs.Prelude.{List, Some, ℕ, ◌≡◌, [], ◌∷◌}
use Rattle.source_typing.specs.Extents.{meant_first}
use Rattle.source_typing.specs.Tables.{Entry, Named, OfTag, Tables, as_tag}

abbrev pub if_tag : Named → Entry → Tables → Tables
if_tag n (OfTag t) others = n ∷ others
if_tag n e others = others

-- the structs and unions alone
abbrev pub tags_alone : Tables → Tables
tags_alone [] = []
tags_alone (n ∷ ns) = if_tag n n.entry (tags_alone ns)

-- of several declarations of a name the first
abbrev pub tags_first : Tables → Tables
tags_first g = tags_alone (meant_first [] g)

-- the same names, with the same structs and unions: they differ in what is neither
abbrev pub AlikeTags : Tables → Tables → Type 0
AlikeTags [] [] = Unit {0}
AlikeTags [] (m ∷ ms) = ⊥
AlikeTags (n ∷ ns) [] = ⊥
AlikeTags (n ∷ ns) (m ∷ ms) = (n.name ≡ m.name) × ((as_tag (Some n.entry) ≡ as_tag (Some m.entry)) × AlikeTags ns ms)

-- a struct or union of this name, of which no members are known
abbrev pub IsOwn : List ℕ → Entry → Type 0
IsOwn x (OfTag t) = t.text ≡ x
IsOwn x e = Unit {0}

abbrev pub IsEmpty : Entry → Type 0
IsEmpty (OfTag t) = t.parts ≡ []
IsEmpty e = Unit {0}

-- each struct and union has its own name
abbrev pub AreOwn : Tables → Type 0
AreOwn [] = Unit {0}
AreOwn (n ∷ ns) = IsOwn n.name n.entry × AreOwn ns

-- of no struct and union a member is known
abbrev pub AreEmpty : Tables → Type 0
AreEmpty [] = Unit {0}
AreEmpty (n ∷ ns) = IsEmpty n.entry × AreEmpty ns
