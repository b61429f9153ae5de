-- Values are converted, variables are read, values are stored to them, and arrays are named.
use Rattle.std.proofs.Common.{◌≡◌, ℕ, Bool, true, false, inr, Option, Some, List, [], ◌∷◌, refl, sym, ◌∙◌, ap, subst}
use Rattle.source_meaning.specs.Shapes.{Shape, ArrayShape}
use Rattle.source_meaning.specs.Memory.{Region, Spot, Scalar, Memory}
use Rattle.source_meaning.specs.Steps.{Entity, Variable, Scope, Act, give, ◌>>=◌, ◌>>◌}
use Rattle.source_meaning.specs.Conversions.{converted}
use Rattle.source_meaning.specs.Values.{write_cells}
use Rattle.source_meaning.specs.Places.{Sense, place_sense, entity_of, entity_sense, span_at, given_by}
use Rattle.source_typing.specs.Converts.{Converts}
use Rattle.source_typing.specs.Types.{StaticType, Int, Unsigned, Char, Void, Null, Thin, Fat, Unique, Handle, Key, Struct, Union, renamed, shape_of}
use Rattle.source_typing.specs.Scope.{Env, Value, Seat, In, find_local, meant}
use Rattle.source_typing.specs.Tables.{OfValue, Stored, Arrayed}
use Rattle.source_typing.specs.Moves.{nothing, place_use, value_use}
use Rattle.source_typing.specs.States.{States}
use Rattle.type_proof.specs.Flat.{Tables}
use Rattle.type_proof.proofs.invariant.Invariant.{Owner, Ghost, HaveTypes, Inv, Grows}
use Rattle.type_proof.proofs.invariant.Values.{Grown}
use Rattle.type_proof.proofs.invariant.Growth.{grows_refl, grows_trans}
use Rattle.type_proof.proofs.invariant.Runs.{Runs}
use Rattle.type_proof.proofs.invariant.After.{After, flying}
use Rattle.type_proof.proofs.invariant.Cells.{Copied}
use Rattle.type_proof.proofs.invariant.Arguments.{Agrees}
use Rattle.type_proof.proofs.invariant.Names.{NameOf}
use Rattle.type_proof.proofs.invariant.Scenes.{Bound, Binds, Scene, scene_later}
use Rattle.type_proof.proofs.invariant.Standing.{Standing, is_own}
use Rattle.type_proof.proofs.invariant.Sound.{cells_type, Gives, GivesBy, FindsBy, FindsAny, Stores, Sound}
use Rattle.type_proof.proofs.expressions.Words.{IsObjectType, IsSimple, values_copied, grows_grown}
use Rattle.type_proof.proofs.expressions.Elements.{all_elements}
use Rattle.type_proof.proofs.expressions.Converting.{converts_goes}
use Rattle.type_proof.proofs.expressions.WordRules.{given_type}
use Rattle.type_proof.proofs.expressions.Places.{sound_placed, sound_copied}

module _ (n : ℕ) (d : Tables) (g : Env) (scope : Scope) (f : NameOf → Region) (b : ℕ) (low : ℕ) where
  -- a value that is given is converted, and then comes the rest, in which it is on its way
  pub runs_converted : {B : Type 0} (s s2 : States) (t u : StaticType) (act : Act (List Scalar)) (h : List Scalar → Act B) (k : ℕ) (w : Ghost) (m : Memory)
      (Q : B → Memory → Type 0) → Agrees scope.world d → IsSimple t → IsObjectType u → Converts g.regions t u → Gives n d g scope f b low s s2 t act → Inv d w m
      → Scene d g scope f b low s k w m
      → ((vs : List Scalar) (w' : Ghost) (m' : Memory) → Inv d w' m' → Grows k b w m w' m' → HaveTypes d w' (flying k 0) vs (cells_type d f u)
      → Scene d g scope f b low s2 k w' m'
      → Runs n (h vs) m' Q)
      → Runs n (act >>= converted scope.world (shape_of u) (shape_of t) >>= h) m Q
  runs_converted s s2 t u act h k w m Q agrees it iu conv gives i x go = record {
    by = λ next q. (gives k w m i x).by (λ vs. (converted scope.world (shape_of u) (shape_of t) vs >>= h) next) (λ vs m' y.
        let x1 : Scene d g scope f b low s2 k y.ghost m' = scene_later d g scope f b low s s2 k w m y.ghost m' y.inv y.grows y.holds.1 x in
        (converts_goes n d scope.world f y.ghost m' (flying k 0) y.inv Q h g.regions k t u vs agrees
        x1.names it iu conv y.holds.0
        (λ us typed. go us y.ghost m' y.inv y.grows typed x1)).by next q);
  }

  -- ---- variables

  variable_sense : (t : StaticType) (at : Spot) → IsObjectType t
      → entity_sense scope.world (Some (Variable (shape_of t) at)) ≡ place_sense scope.world (shape_of t) (give at)
  variable_sense Int at e = refl
  variable_sense Unsigned at e = refl
  variable_sense Char at e = refl
  variable_sense Void at e = absurd e
  variable_sense Null at e = absurd e
  variable_sense (Thin c r t) at e = refl
  variable_sense (Fat r t) at e = refl
  variable_sense (Unique c t) at e = refl
  variable_sense (Handle r) at e = refl
  variable_sense (Key r) at e = refl
  variable_sense (Struct tag rs) at e = refl
  variable_sense (Union tag rs) at e = refl

  -- a variable's region outlives itself
  above_itself : {a : States} {k : ℕ} {e : Option Entity} (sh : Shape) (t : StaticType) (r : NameOf) (z : Bound g.regions.count f e sh t r) (w : Ghost)
      (m : Memory)
      → Inv d w m → Scene d g scope f b low a k w m → w.above z.at.region (f r) ≡ true
  above_itself sh t r z w m h s = ap (λ (q : Region). w.above q (f r)) z.region ∙ h.itself (f r) (s.names.known r z.within)

  -- the cells of a variable that pointers may reach
  pub finds_variable : Binds g scope f → (x : List ℕ) (t : StaticType) (r : NameOf) → meant g x ≡ Some (OfValue (Stored t r))
      → is_own g.tables (find_local g.locals x) ≡ false
      → (z : Bound g.regions.count f (entity_of scope x) (shape_of t) t r) → FindsBy n d g scope f b low nothing t r (give z.at)
  finds_variable binds x t r e mine z = λ st q k w m h s. record {
    by = λ next go. go z.at m (record {
      ghost = w;
      inv = h;
      grows = grows_refl k b w m;
      holds = (
        (
          record { typed = s.variables x (Stored t r) e mine z.at z.is; above = above_itself (shape_of t) t r z w m h s },
          ap m.state z.region ∙ s.names.live r (binds.live x (Stored t r) e),
        ),
        s.stands,
      );
    });
  }

  -- a global, and a local that can be copied, are places
  pub sound_global : Agrees scope.world d → Binds g scope f → (place : ℕ) (moves : Bool) (x : List ℕ) (t : StaticType) (r : NameOf) (v : Value)
      → meant g x ≡ Some (OfValue (Stored t r)) → is_own g.tables (find_local g.locals x) ≡ false → IsObjectType t → (moves ≡ false → Copied (cells_type d f t))
      → v.type ≡ t → v.seat ≡ In r
      → Sound n d g scope f b low v (place_use place moves false nothing) false (entity_sense scope.world (entity_of scope x))
  sound_global agrees binds place moves x t r v e mine it copied vt seat =
      let z : Bound g.regions.count f (entity_of scope x) (shape_of t) t r = binds.variables x (Stored t r) e in
      subst (λ (y : Option Entity). Sound n d g scope f b low v (place_use place moves false nothing) false (entity_sense scope.world y)) (sym z.is)
      (subst (λ (y : Sense). Sound n d g scope f b low v (place_use place moves false nothing) false y) (sym (variable_sense t z.at it))
      (sound_placed n d g scope f b low agrees v place moves false nothing (shape_of t) (give z.at) (ap shape_of (sym vt))
      (λ c. subst (λ (y : StaticType). Copied (cells_type d f y)) (sym vt) (copied c))
      (subst (λ (q : Seat). FindsAny n d g scope f b low nothing false q v.type (give z.at)) (sym seat)
      (subst (λ (y : StaticType). FindsBy n d g scope f b low nothing y r (give z.at)) (sym vt) (finds_variable binds x t r e mine z)))))

  pub sound_local : Agrees scope.world d → Binds g scope f → (x : List ℕ) (t : StaticType) (r : NameOf) (v : Value)
      → meant g x ≡ Some (OfValue (Stored t r)) → is_own g.tables (find_local g.locals x) ≡ false → IsObjectType t → Copied (cells_type d f t) → v.type ≡ t
      → v.seat ≡ In r
      → Sound n d g scope f b low v (value_use nothing) false (entity_sense scope.world (entity_of scope x))
  sound_local agrees binds x t r v e mine it copied vt seat =
      let z : Bound g.regions.count f (entity_of scope x) (shape_of t) t r = binds.variables x (Stored t r) e in
      subst (λ (y : Option Entity). Sound n d g scope f b low v (value_use nothing) false (entity_sense scope.world y)) (sym z.is)
      (subst (λ (y : Sense). Sound n d g scope f b low v (value_use nothing) false y) (sym (variable_sense t z.at it))
      (sound_copied n d g scope f b low agrees v nothing (shape_of t) (give z.at) (ap shape_of (sym vt))
      (subst (λ (y : StaticType). Copied (cells_type d f y)) (sym vt) copied)
      (subst (λ (q : Seat). FindsAny n d g scope f b low nothing false q v.type (give z.at)) (sym seat)
      (subst (λ (y : StaticType). FindsBy n d g scope f b low nothing y r (give z.at)) (sym vt) (finds_variable binds x t r e mine z)))))

  -- an array's name is a fat pointer that spans its elements
  pub gives_array : (x : List ℕ) (t : StaticType) (r : NameOf) (c : ℕ) (z : Bound g.regions.count f (entity_of scope x) (ArrayShape c (shape_of t)) t r)
      → meant g x ≡ Some (OfValue (Arrayed t r)) → is_own g.tables (find_local g.locals x) ≡ false
      → GivesBy n d g scope f b low nothing (Fat r t) (give (span_at c z.at ∷ []))
  gives_array x t r c z e mine = λ st a k w m h s. record {
    by = λ next q. q (span_at c z.at ∷ []) m (record {
      ghost = w;
      inv = h;
      grows = grows_refl k b w m;
      holds = (
        (
          inr (all_elements d w z.at c (f r) (renamed f t) (above_itself (ArrayShape c (shape_of t)) t r z w m h s)
              (s.variables x (Arrayed t r) e mine z.at c z.is)),
          tt,
        ),
        s.stands,
      );
    });
  }

  -- ---- assignments

  -- what an assignment gives is a copy of what was stored, or nothing
  given_typed : (t : StaticType) (vs : List Scalar) (w w' : Ghost) (by : ℕ → Owner) → IsObjectType t → Grown w w' → HaveTypes d w by vs (cells_type d f t)
      → HaveTypes d w' by (given_by (shape_of t) vs) (cells_type d f (given_type t))
  given_typed Int vs w w' by e z h = values_copied d w w' by by vs (cells_type d f Int) z (refl, tt) h
  given_typed Unsigned vs w w' by e z h = values_copied d w w' by by vs (cells_type d f Unsigned) z (refl, tt) h
  given_typed Char vs w w' by e z h = values_copied d w w' by by vs (cells_type d f Char) z (refl, tt) h
  given_typed Void vs w w' by e z h = absurd e
  given_typed Null vs w w' by e z h = absurd e
  given_typed (Thin c r t) vs w w' by e z h = values_copied d w w' by by vs (cells_type d f (Thin c r t)) z (refl, tt) h
  given_typed (Fat r t) vs w w' by e z h = values_copied d w w' by by vs (cells_type d f (Fat r t)) z (refl, tt) h
  given_typed (Unique c t) vs w w' by e z h = tt
  given_typed (Handle r) vs w w' by e z h = values_copied d w w' by by vs (cells_type d f (Handle r)) z (refl, tt) h
  given_typed (Key r) vs w w' by e z h = tt
  given_typed (Struct tag rs) vs w w' by e z h = tt
  given_typed (Union tag rs) vs w w' by e z h = tt

  -- a value is stored to the place of an object, which is found after it was evaluated
  pub gives_assigned : (s0 s1 s2 : States) (t u : StaticType) (to from : Sense) → Agrees scope.world d → IsSimple t → IsObjectType u
      → Converts g.regions t u
      → from.shape ≡ shape_of t → to.shape ≡ shape_of u → Gives n d g scope f b low s0 s1 t from.value → Stores n d g scope f b low s1 s2 u to.place
      → Gives n d g scope f b low s0 s2 (given_type u)
      (from.value >>= converted scope.world to.shape from.shape >>= λ vs. to.place >>= λ s. write_cells s vs >> give (given_by to.shape vs))
  gives_assigned s0 s1 s2 t u to from agrees it iu conv ef et gives stores =
      subst (λ (y : Shape). Gives n d g scope f b low s0 s2 (given_type u)
      (from.value >>= converted scope.world to.shape y >>= λ vs. to.place >>= λ s. write_cells s vs >> give (given_by to.shape vs))) (sym ef)
      (subst (λ (y : Shape). Gives n d g scope f b low s0 s2 (given_type u)
      (from.value >>= converted scope.world y (shape_of t) >>= λ vs. to.place >>= λ s. write_cells s vs >> give (given_by y vs))) (sym et)
      (λ k w m i x. runs_converted s0 s1 t u from.value (λ vs. to.place >>= λ s. write_cells s vs >> give (given_by (shape_of u) vs)) k w m
      (post k w m) agrees it iu conv gives i x
      (λ vs w1 m1 i1 g1 typed x1. stored k w m vs w1 m1 i1 g1 typed x1)))
    where
      post : ℕ → Ghost → Memory → List Scalar → Memory → Type 0
      post k w m = λ vs. After d k b w m (λ w' m'. HaveTypes d w' (flying k 0) vs (cells_type d f (given_type u)) × Standing d g scope f s2 w' m')

      stored : (k : ℕ) (w : Ghost) (m : Memory) (vs : List Scalar) (w1 : Ghost) (m1 : Memory) → Inv d w1 m1 → Grows k b w m w1 m1
          → HaveTypes d w1 (flying k 0) vs (cells_type d f u) → Scene d g scope f b low s1 k w1 m1
          → Runs n (to.place >>= λ s. write_cells s vs >> give (given_by (shape_of u) vs)) m1 (post k w m)
      stored k w m vs w1 m1 i1 g1 typed x1 = record {
        by = λ next q. (stores k w1 m1 vs i1 x1 typed).by (λ a. next (given_by (shape_of u) vs)) (λ a m2 y. q (given_by (shape_of u) vs) m2 (record {
          ghost = y.ghost;
          inv = y.inv;
          grows = grows_trans g1 y.grows;
          holds = (
            given_typed u vs w1 y.ghost (flying k 0) iu (grows_grown y.grows) typed,
            y.holds,
          );
        }));
      }
