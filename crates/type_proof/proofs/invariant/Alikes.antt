-- Types of the same names are the same types of a run, and their cells.
use Rattle.std.proofs.Common.{◌≡◌, ℕ, List, [], ◌∷◌, refl, ap}
use Rattle.std.specs.Prelude.{map}
use Rattle.source_meaning.specs.Memory.{Region}
use Rattle.source_typing.specs.Types.{Int, Unsigned, Char, Void, Null, Thin, Fat, Unique, Handle, Key, Struct, Union, StaticType, renamed}
use Rattle.type_proof.specs.Flat.{Tables, flat}
use Rattle.source_typing.specs.Named.{AllBelow, TypeBelow, Below}
use Rattle.type_proof.proofs.invariant.Invariant.{RunType, heap}
use Rattle.type_proof.proofs.invariant.Names.{NameOf}

-- what an expression's type is in a run
abbrev pub cells_type : Tables → (NameOf → Region) → StaticType → List RunType
cells_type d f t = flat heap d (renamed f t)

-- ---- types speak of names that were declared

-- names that were declared stand for the same in both
abbrev pub Alike : ℕ → (NameOf → Region) → (NameOf → Region) → Type 0
Alike n f h = (a : NameOf) → Below n a → h a ≡ f a

all_alike : (n : ℕ) (f h : NameOf → Region) (rs : List NameOf) → Alike n f h → AllBelow n rs → map h rs ≡ map f rs
all_alike n f h [] e l = refl
all_alike n f h (r ∷ rs) e l = let a = e r l.0 in let b = all_alike n f h rs e l.1 in cc

-- and so a type of such names is the same type of a run
pub renamed_alike : (n : ℕ) (f h : NameOf → Region) (t : StaticType) → Alike n f h → TypeBelow n t → renamed h t ≡ renamed f t
renamed_alike n f h Int e l = refl
renamed_alike n f h Unsigned e l = refl
renamed_alike n f h Char e l = refl
renamed_alike n f h Void e l = refl
renamed_alike n f h Null e l = refl
renamed_alike n f h (Thin b r t) e l = let a = e r l.0 in let c = renamed_alike n f h t e l.1 in cc
renamed_alike n f h (Fat r t) e l = let a = e r l.0 in let c = renamed_alike n f h t e l.1 in cc
renamed_alike n f h (Unique b t) e l = ap (Unique b) (renamed_alike n f h t e l)
renamed_alike n f h (Handle r) e l = ap (λ (q : Region). Handle q) (e r l)
renamed_alike n f h (Key r) e l = ap (λ (q : Region). Key q) (e r l)
renamed_alike n f h (Struct tag rs) e l = ap (λ (qs : List Region). Struct tag qs) (all_alike n f h rs e l)
renamed_alike n f h (Union tag rs) e l = ap (λ (qs : List Region). Union tag qs) (all_alike n f h rs e l)
