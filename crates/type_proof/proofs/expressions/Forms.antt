-- What an expression denotes: literals, names and parentheses, from what their parts do.
use Rattle.std.proofs.Common.{◌≡◌, ℕ, Bool, true, false, ◌⊎◌, inl, inr, Option, Some, None, List, [], ◌∷◌, refl, sym, ◌∙◌, ap, subst}
use Rattle.std.specs.Prelude.{◌%◌, ◌^◌, ◌&&◌, not, bytes_eq, if◌then◌else◌}
use Rattle.source_meaning.specs.Shapes.{MayBeNull, Shared, Shape, IntShape, UnsignedShape, VoidShape, ThinShape, FatShape, ArrayShape}
use Rattle.source_meaning.specs.Memory as memory
use Rattle.source_meaning.specs.Memory.{Region, Spot, Scalar, Integer, IntegerType, AsInt, AsUnsigned, AsChar}
use Rattle.source_meaning.specs.Steps.{Entity, Variable, Scope, Act, give}
use Rattle.source_meaning.specs.Places.{Sense, value_sense, place_sense, entity_of, entity_sense, span_at}
use Rattle.source_meaning.specs.Calls.{constant}
use Rattle.source_typing.specs.Verdicts.{Of, Verdict, other_kind}
use Rattle.source_typing.specs.Places as places
use Rattle.source_typing.specs.Places.{variable}
use Rattle.cyc_tree.specs.Tree as tree
use Rattle.source_typing.specs.Scope.{Env, Local, Value, Seat, Nowhere, In, meant, find_local, with_locals, is_place}
use Rattle.source_typing.specs.Tables as typing
use Rattle.source_typing.specs.Tables.{Entry, What, find, is_copyable, OfValue, OfTag, OfFunction, OfBuiltin, OfOther, Stored, Arrayed, Counter, Unknown}
use Rattle.source_typing.specs.Types.{StaticType, Int, Unsigned, Char, Void, Null, Fat, integer_type, shape_of}
use Rattle.source_typing.proofs.Inversion.{of_is}
use Rattle.source_typing.specs.Moves.{Use, nothing, value_use, place_use, local_use, array_use, if_moved, use_of_local, use_of_name, copy_if, is_moved}
use Rattle.source_typing.specs.States.{States, Passed}
use Rattle.type_proof.specs.Flat.{Tables}
use Rattle.source_typing.specs.Named.{TypeBelow}
use Rattle.type_proof.proofs.invariant.After.{flying}
use Rattle.type_proof.proofs.invariant.Names.{NameOf}
use Rattle.type_proof.proofs.invariant.Scenes.{Bound, Numbered, Binds}
use Rattle.type_proof.proofs.invariant.Sound.{Gives, GivesBy, FindsAny, StoresBy, Sound, sound_value, gives_at_once, none_first}
use Rattle.type_proof.proofs.invariant.Standing.{owns, is_own}
use Rattle.type_proof.proofs.invariant.Copyable.{copyable_copied}
use Rattle.type_proof.proofs.expressions.Uses.{Own}
use Rattle.type_proof.proofs.expressions.Owned.{sound_own}
use Rattle.type_proof.proofs.invariant.Layouts.{Structs, agrees}
use Rattle.type_proof.proofs.expressions.Places.{uncopied, sound_index}
use Rattle.type_proof.proofs.expressions.WordRules.{SeatKnown, Valued, value_of}
use Rattle.type_proof.proofs.expressions.Integers.{integer_typed}
use Rattle.type_proof.proofs.expressions.Words.{IsObjectType, IsSimple, object_simple}
use Rattle.type_proof.proofs.expressions.Storing.{sound_global, sound_local, gives_array}
use Rattle.type_proof.proofs.Entries.{MeansPlain}

-- what the name of a local means
pub local_meant : (ls : List Local) (tables : typing.Tables) (x : List ℕ) (l : Local) → find_local ls x ≡ Some l → find (with_locals ls tables) x
    ≡ Some (OfValue l.what)
local_meant [] tables x l e = absurd cc
local_meant (y ∷ ls) tables x l e = by (bytes_eq y.name x) (λ q. local_meant ls tables x l q) e
  where
    by : (c : Bool) → (find_local ls x ≡ Some l → find (with_locals ls tables) x ≡ Some (OfValue l.what)) → (if c then Some y else find_local ls x) ≡ Some l
        → (if c then Some (OfValue y.what) else find (with_locals ls tables) x) ≡ Some (OfValue l.what)
    by true others q = let z : y ≡ l = cc in ap (λ (k : Local). Some (OfValue k.what)) z
    by false others q = others q

-- what is no local's name means what it does in the program
global_meant : (ls : List Local) (tables : typing.Tables) (x : List ℕ) → find_local ls x ≡ None → find (with_locals ls tables) x ≡ find tables x
global_meant [] tables x e = refl
global_meant (y ∷ ls) tables x e = by (bytes_eq y.name x) (λ q. global_meant ls tables x q) e
  where
    by : (c : Bool) → (find_local ls x ≡ None → find (with_locals ls tables) x ≡ find tables x) → (if c then Some y else find_local ls x) ≡ None
        → (if c then Some (OfValue y.what) else find (with_locals ls tables) x) ≡ find tables x
    by true others q = absurd cc
    by false others q = others q

pub kept_back : (c : Bool) → not c ≡ false → c ≡ true
kept_back true e = refl
kept_back false e = absurd cc

-- what is dereferenced and no local alone is no unique pointer
pub whole_is : (c whole : Bool) → c ≡ true → c && not whole ≡ false → whole ≡ true
whole_is true true e h = refl
whole_is true false e h = absurd cc
whole_is false whole e h = absurd cc

-- what the rules don't call moved can be copied
pub uncopied_type : (g : Env) (o : Verdict Value) (v : Value) → o ≡ Of v → is_moved g o ≡ false → is_copyable g.tables v.type ≡ true
uncopied_type g o v e h = kept_back (is_copyable g.tables v.type) (ap (is_moved g) (sym e) ∙ h)

-- ---- forms

module _ (n : ℕ) (d : Tables) (g : Env) (scope : Scope) (f : NameOf → Region) (b : ℕ) (low : ℕ) where
  -- Whatever its use, flow refuses it, from all states.
  pub record Refuses (u : Use) : Type 0 where
    pub value : (s : States) → (u.value s).faults ≡ [] → ⊥
    pub look : (s : States) → (u.look s).faults ≡ [] → ⊥
    pub place : (s : States) → (u.place s).faults ≡ [] → ⊥
    pub target : (s : States) → (u.target s).faults ≡ [] → ⊥

  -- An expression that was judged to be this: a word, a struct, `NULL` or nothing, whose type names regions in scope; where it is a place, that of an object,
  -- in a region in scope or in a block. What flow refuses is promised nothing.
  pub record Denotes (v : Value) (u : Use) (e : Sense) : Type 0 where
    pub simple : IsSimple v.type
    pub below : TypeBelow g.regions.count v.type
    pub seated : SeatKnown g.regions v.seat
    pub place : is_place v.seat ≡ true → IsObjectType v.type
    -- whether it is a part of a local that can't be copied
    pub own : Bool
    pub sound : Sound n d g scope f b low v u own e ⊎ Refuses u

  nowhere : (v : Value) (A : Type 0) → v.seat ≡ Nowhere → is_place v.seat ≡ true → A
  nowhere v A e h = absurd (let z = ap is_place e in cc)

  -- no place
  unseated : (v : Value) → v.seat ≡ Nowhere → SeatKnown g.regions v.seat
  unseated v e = subst (λ (s : Seat). SeatKnown g.regions s) (sym e) tt

  -- a value that flow refuses, by what it does to the states
  pub denotes_refused : (v : Value) (p : States → Passed) (t : StaticType) (e : Sense) → IsSimple t → TypeBelow g.regions.count t → Valued v t
      → ((s : States) → (p s).faults ≡ [] → ⊥) → Denotes v (value_use p) e
  denotes_refused v p t e simple l h never = record {
    simple = subst (λ (y : StaticType). IsSimple y) (sym h.type) simple;
    below = subst (λ (y : StaticType). TypeBelow g.regions.count y) (sym h.type) l;
    seated = unseated v h.seat;
    place = nowhere v (IsObjectType v.type) h.seat;
    own = false;
    sound = inr (record { value = never; look = never; place = never; target = never });
  }

  -- a place that is found by what flow refuses
  pub refuses_place : (at : ℕ) (moves own : Bool) (p : States → Passed) → ((s : States) → (p s).faults ≡ [] → ⊥) → Refuses (place_use at moves own p)
  refuses_place at moves own p never = record {
    value = λ s e. never s (none_first (p s).faults (copy_if moves at (p s).states).faults e);
    look = never;
    place = never;
    target = never;
  }

  pub denotes_given : (v : Value) (p : States → Passed) (t : StaticType) (s : Shape) (act : Act (List Scalar)) → IsSimple t → TypeBelow g.regions.count t
      → Valued v t
      → ((t ≡ Void → ⊥) → s ≡ shape_of t) → GivesBy n d g scope f b low p t act → Denotes v (value_use p) (value_sense s act)
  denotes_given v p t s act simple l h e gives = record {
    simple = subst (λ (y : StaticType). IsSimple y) (sym h.type) simple;
    below = subst (λ (y : StaticType). TypeBelow g.regions.count y) (sym h.type) l;
    seated = unseated v h.seat;
    place = nowhere v (IsObjectType v.type) h.seat;
    own = false;
    sound = inl (sound_value n d g scope f b low v p s act (λ z. e (λ q. z (h.type ∙ q)) ∙ ap shape_of (sym h.type)) h.seat
        (subst (λ (y : StaticType). GivesBy n d g scope f b low p y act) (sym h.type) gives));
  }

  pub denotes_value : (v : Value) (p : States → Passed) (t : StaticType) (s : Shape) (act : Act (List Scalar)) → IsSimple t → TypeBelow g.regions.count t
      → Valued v t → s ≡ shape_of t
      → GivesBy n d g scope f b low p t act → Denotes v (value_use p) (value_sense s act)
  denotes_value v p t s act simple l h e gives = denotes_given v p t s act simple l h (λ z. e) gives

  -- ---- literals, names, parentheses

  pub denotes_constant : (s : IntegerType) (x : ℕ) (v : Value) → Valued v (integer_type s) → Denotes v (value_use nothing) (constant s x)
  denotes_constant AsInt x v h = denotes_value v nothing Int IntShape (give (Integer AsInt (x % 2 ^ 32) ∷ [])) tt tt h refl
      (gives_at_once n d g scope f b low Int (Integer AsInt (x % 2 ^ 32) ∷ []) (λ k w. integer_typed d f w (flying k 0) AsInt (x % 2 ^ 32)))
  denotes_constant AsUnsigned x v h = denotes_value v nothing Unsigned _ (give (Integer AsUnsigned (x % 2 ^ 32) ∷ [])) tt tt h refl
      (gives_at_once n d g scope f b low Unsigned (Integer AsUnsigned (x % 2 ^ 32) ∷ []) (λ k w. integer_typed d f w (flying k 0) AsUnsigned (x % 2 ^ 32)))
  denotes_constant AsChar x v h = denotes_value v nothing Char _ (give (Integer AsChar (x % 256) ∷ [])) tt tt h refl
      (gives_at_once n d g scope f b low Char (Integer AsChar (x % 256) ∷ []) (λ k w. integer_typed d f w (flying k 0) AsChar (x % 256)))

  -- the index of an element
  denotes_index : (x : List ℕ) (at : Spot) (v : Value) → meant g x ≡ Some (OfValue Counter) → entity_of scope x ≡ Some (Variable UnsignedShape at)
      → Valued v Unsigned → Denotes v (value_use nothing) (place_sense scope.world UnsignedShape (give at))
  denotes_index x at v m e h = record {
    simple = subst (λ (y : StaticType). IsSimple y) (sym h.type) tt;
    below = subst (λ (y : StaticType). TypeBelow g.regions.count y) (sym h.type) tt;
    seated = unseated v h.seat;
    place = nowhere v (IsObjectType v.type) h.seat;
    own = false;
    sound = inl (sound_index n d g scope f b low at v (λ s k w k2 z. z.indices x at m e) h.type h.seat);
  }

  pub denotes_null : (v : Value) → Valued v Null
      → Denotes v (value_use nothing) (value_sense (ThinShape (MayBeNull 1) Shared VoidShape) (give (memory.Thin None ∷ [])))
  denotes_null v h = denotes_value v nothing Null _ (give (memory.Thin None ∷ [])) tt tt h refl
      (gives_at_once n d g scope f b low Null (memory.Thin None ∷ []) (λ k w. (refl, tt)))

  -- a value that isn't moved out of a place, of an expression that is none
  denotes_unplaced : (place : ℕ) (moves : Bool) (v : Value) (e : Sense) → Denotes v (value_use nothing) e → v.seat ≡ Nowhere
      → Denotes v (place_use place moves false nothing) e
  denotes_unplaced place moves v e h seat = record {
    simple = h.simple;
    below = h.below;
    seated = h.seated;
    place = h.place;
    own = false;
    sound = by h.sound;
  }
    where
      by : Sound n d g scope f b low v (value_use nothing) h.own e ⊎ Refuses (value_use nothing)
          → Sound n d g scope f b low v (place_use place moves false nothing) false e ⊎ Refuses (place_use place moves false nothing)
      by (inr r) = absurd (r.look [] refl)
      by (inl z) = inl (record {
        shape = z.shape;
        owned = λ q. absurd cc;
        value = λ is s q.
            let c : (moves ≡ false) × ((copy_if moves place s).states ≡ s) = uncopied moves place s q in
            subst (λ (s2 : States). Gives n d g scope f b low s s2 v.type e.value) (sym c.1) (z.value is s refl);
        look = z.look;
        held = λ y. absurd cc;
        place = nowhere v (FindsAny n d g scope f b low nothing false v.seat v.type e.place) seat;
        pointed = λ o r q. absurd (let y : v.seat ≡ Nowhere = seat in cc);
        stores = λ is. nowhere v (StoresBy n d g scope f b low nothing v.type e.place) seat;
      })

  -- a name of the program's, and one of a local
  pub denotes_variable : Structs d scope.world g.tables → Binds g scope f → (x : tree.Name) (o : Option Entry) (v : Value) → MeansPlain scope.world g
      → meant g x.text ≡ o → variable x.at o ≡ Of v → (l : Option Local) → find_local g.locals x.text ≡ l
      → Denotes v (use_of_name g x l) (entity_sense scope.world (entity_of scope x.text))
  denotes_variable structs binds x None v p m e l q = absurd cc
  denotes_variable structs binds x (Some (OfValue (Stored t r))) v p m e l q =
      let z : record { at = x.at; type = t; seat = In r } ≡ v = of_is (record { at = x.at; type = t; seat = In r }) v e in
      by l q (p x.text (OfValue (Stored t r)) m) (ap (λ (y : Value). y.type) (sym z)) (ap (λ (y : Value). y.seat) (sym z))
      (binds.variables x.text (Stored t r) m)
    where
      made : (u : Use) (mine : Bool) → IsObjectType t → v.type ≡ t → v.seat ≡ In r → Bound g.regions.count f (entity_of scope x.text) (shape_of t) t r
          → Sound n d g scope f b low v u mine (entity_sense scope.world (entity_of scope x.text))
          → Denotes v u (entity_sense scope.world (entity_of scope x.text))
      made u mine it vt vs bound h = record {
        simple = subst (λ (y : StaticType). IsSimple y) (sym vt) (object_simple t it);
        below = subst (λ (y : StaticType). TypeBelow g.regions.count y) (sym vt) bound.below;
        seated = subst (λ (y : Seat). SeatKnown g.regions y) (sym vs) (bound.within, binds.live x.text (Stored t r) m);
        place = λ q. subst (λ (u : StaticType). IsObjectType u) (sym vt) it;
        own = mine;
        sound = inl h;
      }

      by : (l : Option Local) → find_local g.locals x.text ≡ l → IsObjectType t → v.type ≡ t → v.seat ≡ In r
          → Bound g.regions.count f (entity_of scope x.text) (shape_of t) t r
          → Denotes v (use_of_name g x l) (entity_sense scope.world (entity_of scope x.text))
      by None q it vt vs bound =
          made (place_use x.at (is_moved g (variable x.at (find g.tables x.text))) false nothing) false it vt vs bound
          (sound_global n d g scope f b low (agrees d scope.world g.tables structs) binds x.at
          (is_moved g (variable x.at (find g.tables x.text))) x.text t r v m
          (ap (is_own g.tables) q) it (λ c. copyable_copied d scope.world g.tables f t structs (copied_global c)) vt vs)
        where
          -- a value is copied out of it where its type can be copied
          copied_global : is_moved g (variable x.at (find g.tables x.text)) ≡ false → is_copyable g.tables t ≡ true
          copied_global c = kept_back (is_copyable g.tables t)
              (ap (λ (o : Option Entry). is_moved g (variable x.at o)) (sym (sym (global_meant g.locals g.tables x.text q) ∙ m)) ∙ c)
      by (Some l) q it vt vs bound =
          let is : l.what ≡ Stored t r = (let a : Some (OfValue l.what) ≡ Some (OfValue (Stored t r)) = sym (local_meant g.locals g.tables x.text l q)
          ∙ m in cc) in
          subst (λ (y : What). Denotes v (use_of_local g x y) (entity_sense scope.world (entity_of scope x.text))) (sym is)
          (kept (is_copyable g.tables t) refl is)
        where
          -- a local that can be copied is reached, and another one is moved
          kept : (c : Bool) → is_copyable g.tables t ≡ c → l.what ≡ Stored t r
              → Denotes v (if_moved (not c) (local_use g.locals x)) (entity_sense scope.world (entity_of scope x.text))
          kept true copies is =
              let mine : is_own g.tables (find_local g.locals x.text) ≡ false = ap (is_own g.tables) q ∙ ap (owns g.tables) is ∙ ap not copies in
              made (value_use nothing) false it vt vs bound
              (sound_local n d g scope f b low (agrees d scope.world g.tables structs) binds x.text t r v m mine it
              (copyable_copied d scope.world g.tables f t structs copies) vt vs)
          kept false moved is =
              made (local_use g.locals x) true it vt vs bound
              (sound_own n d g scope f b low (agrees d scope.world g.tables structs) x v
              (subst (λ (y : StaticType). Own d g scope f x.text y) (sym vt) (record {
                local = l;
                found = q;
                region = r;
                what = is;
                moved = moved;
                at = bound.at;
                bound = bound.is;
                lies = bound.region;
                lives = binds.live x.text (Stored t r) m;
              })))
  denotes_variable structs binds x (Some (OfValue (Arrayed t r))) v p m e l q =
      let z : (c : ℕ) × Bound g.regions.count f (entity_of scope x.text) (ArrayShape c (shape_of t)) t r = binds.variables x.text (Arrayed t r) m in
      subst (λ (y : Option Entity). Denotes v (use_of_name g x l) (entity_sense scope.world y)) (sym z.1.is)
      (by l q (p x.text (OfValue (Arrayed t r)) m) z.0 z.1)
    where
      by : (l : Option Local) → find_local g.locals x.text ≡ l → IsObjectType t
          → (c : ℕ) (z : Bound g.regions.count f (entity_of scope x.text) (ArrayShape c (shape_of t)) t r)
          → Denotes v (use_of_name g x l) (value_sense (FatShape (shape_of t)) (give (span_at c z.at ∷ [])))
      by None q it c z = denotes_unplaced x.at (is_moved g (variable x.at (find g.tables x.text))) v
          (value_sense (FatShape (shape_of t)) (give (span_at c z.at ∷ [])))
          (denotes_value v nothing (Fat r t) (FatShape (shape_of t)) (give (span_at c z.at ∷ [])) it (z.within, z.below) (value_of x.at (Fat r t) v e) refl
          (gives_array n d g scope f b low x.text t r c z m (ap (is_own g.tables) q))) (value_of x.at (Fat r t) v e).seat
      by (Some l) q it c z =
          let is : l.what ≡ Arrayed t r = (let a : Some (OfValue l.what) ≡ Some (OfValue (Arrayed t r)) = sym (local_meant g.locals g.tables x.text l q)
          ∙ m in cc) in
          subst (λ (y : What). Denotes v (use_of_local g x y) (value_sense (FatShape (shape_of t)) (give (span_at c z.at ∷ [])))) (sym is)
          (kept (is_copyable g.tables t) refl is)
        where
          -- a local array of elements that can't be copied is never used
          kept : (y : Bool) → is_copyable g.tables t ≡ y → l.what ≡ Arrayed t r
              → Denotes v (if_moved (not y) (array_use x.at)) (value_sense (FatShape (shape_of t)) (give (span_at c z.at ∷ [])))
          kept true copies is =
              let mine : is_own g.tables (find_local g.locals x.text) ≡ false = ap (is_own g.tables) q ∙ ap (owns g.tables) is ∙ ap not copies in
              denotes_value v nothing (Fat r t) (FatShape (shape_of t)) (give (span_at c z.at ∷ [])) it (z.within, z.below) (value_of x.at (Fat r t) v e) refl
              (gives_array n d g scope f b low x.text t r c z m mine)
          kept false moved is =
              let h : Denotes v (value_use (copy_if true x.at)) (value_sense (FatShape (shape_of t)) (give (span_at c z.at ∷ []))) =
              denotes_refused v (copy_if true x.at) (Fat r t) (value_sense (FatShape (shape_of t)) (give (span_at c z.at ∷ []))) it (z.within, z.below)
              (value_of x.at (Fat r t) v e) (λ s a. absurd cc) in
              record {
                simple = h.simple;
                below = h.below;
                seated = h.seated;
                place = h.place;
                own = false;
                sound = inr (record { value = λ s a. absurd cc; look = λ s a. absurd cc; place = λ s a. absurd cc; target = λ s a. absurd cc });
              }
  denotes_variable structs binds x (Some (OfValue Counter)) v p m e l q =
      let z : Numbered (entity_of scope x.text) = binds.variables x.text Counter m in
      subst (λ (y : Option Entity). Denotes v (use_of_name g x l) (entity_sense scope.world y)) (sym z.is)
      (by l q (denotes_index x.text z.at v m z.is (value_of x.at Unsigned v e)))
    where
      by : {at : Spot} (l : Option Local) → find_local g.locals x.text ≡ l
          → Denotes v (value_use nothing) (place_sense scope.world UnsignedShape (give at))
          → Denotes v (use_of_name g x l) (place_sense scope.world UnsignedShape (give at))
      by {at = at} None q h = denotes_unplaced x.at (is_moved g (variable x.at (find g.tables x.text))) v (place_sense scope.world UnsignedShape (give at)) h
          (value_of x.at Unsigned v e).seat
      by {at = at} (Some l) q h =
          let is : l.what ≡ Counter = (let a : Some (OfValue l.what) ≡ Some (OfValue Counter) = sym (local_meant g.locals g.tables x.text l q) ∙ m in cc) in
          subst (λ (y : What). Denotes v (use_of_local g x y) (place_sense scope.world UnsignedShape (give at))) (sym is) h
  denotes_variable structs binds x (Some (OfValue (Unknown sound))) v p m e l q = absurd (p x.text (OfValue (Unknown sound)) m)
  denotes_variable structs binds x (Some (OfTag t)) v p m e l q = absurd (never t.sound e)
    where
      never : (c : Bool) → other_kind c x.at ≡ Of v → ⊥
      never true h = cc
      never false h = cc
  denotes_variable structs binds x (Some (OfFunction s)) v p m e l q = absurd (never s.sound e)
    where
      never : (c : Bool) → other_kind c x.at ≡ Of v → ⊥
      never true h = cc
      never false h = cc
  denotes_variable structs binds x (Some (OfBuiltin c)) v p m e l q = absurd cc
  denotes_variable structs binds x (Some OfOther) v p m e l q = absurd cc

  pub denotes_grouped : (at : ℕ) (a v : Value) (u : Use) (e : Sense) → Denotes a u e → places.grouped at a ≡ Of v → Denotes v u e
  denotes_grouped at a v u e h z =
      subst (λ (y : Value). Denotes y u e) (of_is (record { at = at; type = a.type; seat = a.seat }) v z)
      (record { simple = h.simple; below = h.below; seated = h.seated; place = h.place; own = h.own; sound = by h.sound })
    where
      by : Sound n d g scope f b low a u h.own e ⊎ Refuses u
          → Sound n d g scope f b low (record { at = at; type = a.type; seat = a.seat }) u h.own e ⊎ Refuses u
      by (inr r) = inr r
      by (inl y) = inl (record {
        shape = y.shape;
        owned = y.owned;
        value = y.value;
        look = y.look;
        held = y.held;
        place = y.place;
        pointed = y.pointed;
        stores = y.stores;
      })
