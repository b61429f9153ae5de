-- What the rules call copyable has no cell that carries a right.
use Rattle.std.proofs.Common.{◌≡◌, ◌≤◌, ℕ, zero, suc, Bool, true, false, List, [], ◌∷◌, ◌++◌, refl, sym, ◌∙◌, ap, subst, arith}
use Rattle.std.specs.Prelude.{map, length, bytes_eq, if◌then◌else◌}
use Rattle.std.proofs.lemmas.Bool.{false≢true, and_parts}
use Rattle.std.proofs.lemmas.Slice.Eq.{bytes_eq-Decides}
use Rattle.source_meaning.specs.Shapes as shapes
use Rattle.source_meaning.specs.Shapes.{Layout}
use Rattle.source_meaning.specs.Memory.{Region}
use Rattle.source_meaning.specs.Steps.{World}
use Rattle.source_typing.specs.Regions as names
use Rattle.source_typing.specs.Tables as typing
use Rattle.source_typing.specs.Tables.{parts_in, each_part, if_known, copies, is_copyable}
use Rattle.source_typing.specs.Types.{StaticType, Int, Unsigned, Char, Void, Null, Thin, Fat, Unique, Handle, Key, Struct, Union, renamed}
use Rattle.type_proof.specs.Flat.{Declared, Tables, filled, flat, flat_by, flat_all, struct_flat}
use Rattle.type_proof.specs.Structs.{AreMembers, AreLaidOut}
use Rattle.type_proof.proofs.invariant.Invariant.{RunType, heap}
use Rattle.type_proof.proofs.invariant.Cells.{Copied}
use Rattle.type_proof.proofs.invariant.Layouts.{Structs}

abbrev cells : List Declared → RunType → List RunType
cells ds t = flat_by (struct_flat heap ds) t

both : (xs ys : List RunType) → Copied xs → Copied ys → Copied (xs ++ ys)
both [] ys h k = k
both (x ∷ xs) ys h k = (h.0, both xs ys h.1 k)

none : (ds : List Declared) (tag : List ℕ) (rs : List Region) → length ds ≤ 0 → Copied (struct_flat heap ds tag rs)
none [] tag rs l = tt
none (d ∷ ds) tag rs l = absurd (omega (arith, l))

module _ (tables : typing.Tables) where
  abbrev StructsCopied : List Declared → Type 0
  StructsCopied ds = (n : ℕ) (tag : List ℕ) (rs : List Region) → length ds ≤ suc n → each_part (copies n tables) (parts_in tables tag) ≡ true
      → Copied (struct_flat heap ds tag rs)

  type_copied : (ds : List Declared) → StructsCopied ds → (n : ℕ) (f : names.Region → Region) (t : StaticType) → length ds ≤ n
      → copies n tables t ≡ true → Copied (cells ds (renamed f t))
  type_copied ds each n f Int l e = (refl, tt)
  type_copied ds each n f Unsigned l e = (refl, tt)
  type_copied ds each n f Char l e = (refl, tt)
  type_copied ds each n f Void l e = tt
  type_copied ds each n f Null l e = (refl, tt)
  type_copied ds each n f (Thin c r t) l e = (refl, tt)
  type_copied ds each n f (Fat r t) l e = (refl, tt)
  type_copied ds each n f (Unique c t) l e = absurd (false≢true e)
  type_copied ds each n f (Handle r) l e = (refl, tt)
  type_copied ds each n f (Key r) l e = absurd (false≢true e)
  type_copied ds each zero f (Struct tag rs) l e = none ds tag (map f rs) l
  type_copied ds each (suc n) f (Struct tag rs) l e = each n tag (map f rs) l e
  type_copied ds each n f (Union tag rs) l e = (refl, tt)

  members_copied : (ds : List Declared) → StructsCopied ds → (n : ℕ) (f : names.Region → Region) (ps : List typing.Part) (qs : List shapes.Part)
      (ts : List StaticType) → AreMembers ps qs ts → length ds ≤ n → each_part (copies n tables) ps ≡ true
      → Copied (flat_all (cells ds) (map (renamed f) ts))
  members_copied ds each n f [] [] [] h l e = tt
  members_copied ds each n f (p ∷ ps) (q ∷ qs) (t ∷ ts) h l e =
      let z : (if_known (copies n tables) p.type ≡ true) × (each_part (copies n tables) ps ≡ true) =
      and_parts (if_known (copies n tables) p.type) (each_part (copies n tables) ps) e in
      both (cells ds (renamed f t)) (flat_all (cells ds) (map (renamed f) ts))
      (type_copied ds each n f t l (sym (ap (if_known (copies n tables)) h.1) ∙ z.0))
      (members_copied ds each n f ps qs ts h.3 l z.1)
  members_copied ds each n f [] [] (t ∷ ts) h l e = absurd h
  members_copied ds each n f [] (q ∷ qs) ts h l e = absurd h
  members_copied ds each n f (p ∷ ps) [] ts h l e = absurd h
  members_copied ds each n f (p ∷ ps) (q ∷ qs) [] h l e = absurd h

  structs_copied : (ds : List Declared) (ls : List Layout) → AreLaidOut tables ds ls → StructsCopied ds
  structs_copied [] [] h n tag rs l e = tt
  structs_copied (d ∷ ds) (x ∷ ls) h n tag rs l e = by (bytes_eq d.tag tag) refl (structs_copied ds ls h.2)
    where
      by : (b : Bool) → bytes_eq d.tag tag ≡ b → StructsCopied ds
          → Copied (if b then flat_all (cells ds) (map (renamed (filled heap rs)) d.parts) else struct_flat heap ds tag rs)
      by true q others = members_copied ds others n (filled heap rs) (parts_in tables d.tag) x.parts d.parts h.1 (omega (arith, l))
          (subst (λ (y : List ℕ). each_part (copies n tables) (parts_in tables y) ≡ true) (sym ((bytes_eq-Decides d.tag tag).0 q)) e)
      by false q others = others n tag rs (omega (arith, l)) e
  structs_copied [] (x ∷ ls) h n tag rs l e = absurd h
  structs_copied (d ∷ ds) [] h n tag rs l e = absurd h

pub copyable_copied : (d : Tables) (world : World) (tables : typing.Tables) (f : names.Region → Region) (t : StaticType) → Structs d world tables
    → is_copyable tables t ≡ true → Copied (flat heap d (renamed f t))
copyable_copied d world tables f t h e =
    type_copied tables d.structs (structs_copied tables d.structs world.structs h.laid_out) (length tables) f t h.few e
