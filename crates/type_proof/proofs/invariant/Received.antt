-- How a variable's cells are kept: pointers may reach them where its type can be copied, and else they are private, and held where they begin.
use Rattle.std.proofs.Common.{◌≡◌, ℕ, zero, suc, Bool, true, false, List, [], ◌∷◌, refl, sym, ◌∙◌, ap, subst}
use Rattle.std.specs.Prelude.{if◌then◌else◌}
use Rattle.source_meaning.specs.Shapes.{Shape}
use Rattle.source_meaning.specs.Memory.{Region, Spot, Scalar, Memory, beyond}
use Rattle.source_meaning.specs.Steps.{Variable}
use Rattle.source_typing.specs.Left.{begins_as}
use Rattle.source_typing.specs.Regions.{TheHeap}
use Rattle.source_typing.specs.Scope.{Env}
use Rattle.source_typing.specs.States.{State, Plain, Held}
use Rattle.source_typing.specs.Tables as typing
use Rattle.source_typing.specs.Tables.{Stored, copies, is_copyable}
use Rattle.source_typing.specs.Types.{Int, Unsigned, Char, Void, Null, Thin, Fat, Unique, Handle, Key, Struct, Union, StaticType, renamed}
use Rattle.type_proof.specs.Flat.{Tables}
use Rattle.type_proof.proofs.invariant.Invariant.{RunType, Kept, Reached, Private, type_of, Ghost, Laid}
use Rattle.type_proof.proofs.invariant.Objects.{FullAt, full_laid}
use Rattle.type_proof.proofs.invariant.Names.{NameOf}
use Rattle.type_proof.proofs.invariant.Alikes.{cells_type}
use Rattle.type_proof.proofs.invariant.Rights.{HeldAt}
use Rattle.type_proof.proofs.invariant.LocalCells.{CellsStand}
use Rattle.type_proof.proofs.invariant.Standing.{LocalStands}

abbrev pub kept_if : Bool → RunType → Kept
kept_if c u = (if c then Reached u else Private u)

abbrev pub kept_as : typing.Tables → StaticType → RunType → Kept
kept_as tables t u = kept_if (is_copyable tables t) u

pub kept_type : (tables : typing.Tables) (t : StaticType) (u : RunType) → type_of (kept_as tables t u) ≡ u
kept_type tables t u = by (is_copyable tables t)
  where
    by : (c : Bool) → type_of (kept_if c u) ≡ u
    by true = refl
    by false = refl

-- a type of a run without its regions, which have no part in this
abbrev pub erased : RunType → StaticType
erased t = renamed (λ r. TheHeap) t

pub copies_same : (n : ℕ) (tables : typing.Tables) (f : NameOf → Region) (t : StaticType) → copies n tables (erased (renamed f t)) ≡ copies n tables t
copies_same zero g f Int = refl
copies_same zero g f Unsigned = refl
copies_same zero g f Char = refl
copies_same zero g f Void = refl
copies_same zero g f Null = refl
copies_same zero g f (Thin n r t) = refl
copies_same zero g f (Fat r t) = refl
copies_same zero g f (Unique n t) = refl
copies_same zero g f (Handle r) = refl
copies_same zero g f (Key r) = refl
copies_same zero g f (Struct tag rs) = refl
copies_same zero g f (Union tag rs) = refl
copies_same (suc k) g f Int = refl
copies_same (suc k) g f Unsigned = refl
copies_same (suc k) g f Char = refl
copies_same (suc k) g f Void = refl
copies_same (suc k) g f Null = refl
copies_same (suc k) g f (Thin n r t) = refl
copies_same (suc k) g f (Fat r t) = refl
copies_same (suc k) g f (Unique n t) = refl
copies_same (suc k) g f (Handle r) = refl
copies_same (suc k) g f (Key r) = refl
copies_same (suc k) g f (Struct tag rs) = refl
copies_same (suc k) g f (Union tag rs) = refl

full_held : (w : Ghost) (m : Memory) (s : Spot) (ts : List RunType) (vs : List Scalar) → FullAt (kept_if false) w m s ts vs → HeldAt w m s ts vs
full_held w m s [] [] h = tt
full_held w m s (t ∷ ts) (v ∷ vs) h = (h.0, h.1, full_held w m (beyond s 1) ts vs h.2)
full_held w m s [] (v ∷ vs) h = absurd h
full_held w m s (t ∷ ts) [] h = absurd h

full_reached : (w : Ghost) (m : Memory) (s : Spot) (ts : List RunType) (vs : List Scalar) → FullAt (kept_if true) w m s ts vs
    → FullAt (λ u. Reached u) w m s ts vs
full_reached w m s [] [] h = tt
full_reached w m s (t ∷ ts) (v ∷ vs) h = (h.0, h.1, full_reached w m (beyond s 1) ts vs h.2)
full_reached w m s [] (v ∷ vs) h = absurd h
full_reached w m s (t ∷ ts) [] h = absurd h

module _ (tables : typing.Tables) (d : Tables) (f : NameOf → Region) (t : StaticType) (w : Ghost) (m : Memory) (at : Spot) (vs : List Scalar)
    (full : FullAt (kept_as tables t) w m at (cells_type d f t) vs)
  where
    -- what can be copied is reached
    pub laid_new : is_copyable tables t ≡ true → Laid w at (cells_type d f t)
    laid_new e = full_laid w m at (cells_type d f t) vs
        (full_reached w m at (cells_type d f t) vs (subst (λ (c : Bool). FullAt (kept_if c) w m at (cells_type d f t) vs) e full))

    -- what can't is held
    pub stands_new : (r : NameOf) (sh : Shape) (top : Env) → top.tables ≡ tables
        → LocalStands tables d f (Stored t r) (Variable sh at) (begins_as top (Stored t r)) w m
    stands_new r sh top same = λ moved.
        let begins : begins_as top (Stored t r) ≡ Held = ap (λ (g : typing.Tables). if is_copyable g t then Plain else Held) same
        ∙ ap (λ (c : Bool). if c then Plain else Held) moved in
        subst (λ (a : State). CellsStand a w m at (cells_type d f t)) (sym begins)
        (record {
          values = vs;
          held = full_held w m at (cells_type d f t) vs (subst (λ (c : Bool). FullAt (kept_if c) w m at (cells_type d f t) vs) moved full);
        })
