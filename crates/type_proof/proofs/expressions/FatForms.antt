-- What strings, `numelts` and subscripts denote, from what their parts do.
use Rattle.std.proofs.Common.{◌≡◌, ℕ, Bool, true, false, ◌⊎◌, inl, inr, Option, Some, None, [], ◌∷◌, refl, sym, ◌∙◌, ap, subst}
use Rattle.std.specs.Prelude.{length, is_some}
use Rattle.source_meaning.specs.Shapes.{bound_in, count_of, single, Shape, UnsignedShape, CharShape, FatShape, pointee}
use Rattle.source_meaning.specs.Memory.{Region, Spot, Scalar, Memory}
use Rattle.source_meaning.specs.Steps.{Scope, Act, ◌>>=◌, give, need}
use Rattle.source_meaning.specs.Conversions.{cells_of, one, integer, accessed}
use Rattle.source_meaning.specs.Places.{Sense, indexed, indexed_span, string_at, value_sense}
use Rattle.source_meaning.specs.Calls as calls
use Rattle.source_typing.specs.Converts.{IsInteger}
use Rattle.source_typing.specs.Operators as rules
use Rattle.source_typing.specs.Operators.{is_fat}
use Rattle.source_typing.specs.Places as places
use Rattle.source_typing.specs.Moves.{nothing, Use, value_use, place_use, copy_if}
use Rattle.source_typing.specs.Regions.{TheHeap}
use Rattle.source_typing.specs.Scope.{Env, Enclosing, Value, Seat, In, InBlock}
use Rattle.source_typing.specs.Types.{StaticType, Int, Unsigned, Char, Void, Null, Thin, Fat, Unique, Handle, Key, Struct, Union, shape_of}
use Rattle.source_typing.specs.Verdicts.{Of}
use Rattle.source_typing.proofs.PlacesFit.{PointsTo, indexed_is}
use Rattle.type_proof.specs.Entries.{IsObjectType}
use Rattle.source_typing.specs.States.{States, Passed, then_passed}
use Rattle.source_typing.specs.Tables.{is_copyable}
use Rattle.type_proof.specs.Flat.{Tables}
use Rattle.source_typing.specs.Named.{TypeBelow}
use Rattle.type_proof.proofs.invariant.Invariant as invariant
use Rattle.type_proof.proofs.invariant.Invariant.{Ghost, Inv}
use Rattle.type_proof.proofs.invariant.After.{After}
use Rattle.type_proof.proofs.invariant.Runs.{Runs}
use Rattle.type_proof.proofs.invariant.Scenes.{Scene}
use Rattle.type_proof.proofs.invariant.Standing.{Standing}
use Rattle.type_proof.proofs.invariant.Growth.{grows_refl}
use Rattle.type_proof.proofs.Strings.{string_spans}
use Rattle.type_proof.proofs.invariant.Arguments.{Agrees}
use Rattle.type_proof.proofs.invariant.Names.{NameOf}
use Rattle.type_proof.proofs.invariant.Sound.{cells_type, PlaceStands, Shows, ShowsHeld, Finds, GivesBy, ShowsBy, FindsAny, Sound, passed_first, passed_second}
use Rattle.type_proof.proofs.expressions.Places.{sound_placed, uncopied}
use Rattle.type_proof.proofs.invariant.Copyable.{copyable_copied}
use Rattle.type_proof.proofs.invariant.Layouts.{Structs, agrees}
use Rattle.type_proof.proofs.expressions.Elements.{cells_counted}
use Rattle.type_proof.proofs.Entries.{strictly}
use Rattle.type_proof.proofs.expressions.Fixed.{within}
use Rattle.type_proof.proofs.expressions.BlockPlaces.{finds_block_element}
use Rattle.type_proof.proofs.expressions.Contents.{seat_known}
use Rattle.type_proof.proofs.expressions.Forms.{Denotes, Refuses, denotes_refused, denotes_value, refuses_place}
use Rattle.type_proof.proofs.expressions.Spans.{gives_counted, finds_indexed, finds_subscripted}
use Rattle.type_proof.proofs.expressions.WordRules.{IsPointer, IsThin, IsFat, IsUnique, pointer_object, pointer_some, pointer_below, pointer_shape}
use Rattle.type_proof.proofs.expressions.WordRules.{SeatBelow, SeatKnown, SeatLives, Valued, value_of, fitted}
use Rattle.type_proof.proofs.expressions.Words.{IsSimple, object_simple}

-- a fat pointer's type
record FatTo (t : StaticType) : Type 0 where
  region : NameOf
  to : StaticType
  is : t ≡ Fat region to

fat_to : (t : StaticType) → is_fat t ≡ true → FatTo t
fat_to (Fat r t) e = record { region = r; to = t; is = refl }
fat_to Int e = absurd cc
fat_to Unsigned e = absurd cc
fat_to Char e = absurd cc
fat_to Void e = absurd cc
fat_to Null e = absurd cc
fat_to (Thin n r t) e = absurd cc
fat_to (Unique n t) e = absurd cc
fat_to (Handle r) e = absurd cc
fat_to (Key r) e = absurd cc
fat_to (Struct tag rs) e = absurd cc
fat_to (Union tag rs) e = absurd cc

-- what a subscript takes: a pointer into a live region, or a unique one, and an integer
record Indexes (g : Env) (t : StaticType) (v : Value) : Type 0 where
  seat : Seat
  to : StaticType
  is : IsPointer t seat to
  live : SeatLives g seat
  type : v.type ≡ to
  placed : v.seat ≡ seat

indexes : (g : Env) (t : StaticType) (v : Value) → PointsTo g t v → Indexes g t v
indexes g (Fat r t) v h = record { seat = In r; to = t; is = IsFat; live = h.0; type = h.1.0; placed = h.1.1 }
indexes g (Thin n r t) v h = record { seat = In r; to = t; is = IsThin; live = h.0; type = h.1.0; placed = h.1.1 }
indexes g (Unique n t) v h = record { seat = InBlock; to = t; is = IsUnique; live = tt; type = h.0; placed = h.1 }
indexes g Int v h = absurd h
indexes g Unsigned v h = absurd h
indexes g Char v h = absurd h
indexes g Void v h = absurd h
indexes g Null v h = absurd h
indexes g (Handle r) v h = absurd h
indexes g (Key r) v h = absurd h
indexes g (Struct tag rs) v h = absurd h
indexes g (Union tag rs) v h = absurd h

single_count : (nullable : Bool) → count_of (single nullable) ≡ 1
single_count true = refl
single_count false = refl

-- a string that isn't too long
pub text_valued : (at : ℕ) (v : Value) (c : Bool) → rules.string_sized c at ≡ Of v → Valued v (Fat TheHeap Char)
text_valued at v true j = value_of at (Fat TheHeap Char) v j
text_valued at v false j = absurd cc

module _ (n : ℕ) (d : Tables) (g : Env) (scope : Scope) (f : NameOf → Region) (b : ℕ) (low : ℕ) where
  -- a literal whose place is known
  pub denotes_text : (at : ℕ) (v : Value) → is_some (string_at scope.world.strings at) ≡ true → Valued v (Fat TheHeap Char)
      → Denotes n d g scope f b low v (value_use nothing) (value_sense (FatShape CharShape) (need (string_at scope.world.strings at) >>= λ x. give (x ∷ [])))
  denotes_text at v found h =
      denotes_value n d g scope f b low v nothing (Fat TheHeap Char) (FatShape CharShape) _ tt (tt, tt) h refl
      (by (string_at scope.world.strings at) refl found)
    where
      by : (o : Option Scalar) → string_at scope.world.strings at ≡ o → is_some o ≡ true
          → GivesBy n d g scope f b low nothing (Fat TheHeap Char) (need o >>= λ x. give (x ∷ []))
      by None e y = absurd cc
      by (Some x) e y = λ s none k w m i z. record {
        by = λ next q. q (x ∷ []) m (record {
          ghost = w;
          inv = i;
          grows = grows_refl k b w m;
          holds = (
            (inr (subst (λ (r : Region). invariant.Spans d w x r Char) (sym z.names.heap_is) (string_spans d w m x i (z.globals.strings at x e))), tt),
            z.stands,
          );
        });
      }

  pub denotes_counted : (at : ℕ) (a v : Value) (u : Use) (e : Sense) → Denotes n d g scope f b low a u e → rules.counted at a ≡ Of v
      → Denotes n d g scope f b low v (value_use u.look) (calls.counted e)
  denotes_counted at a v u e h j = by h.sound
    where
      r : (is_fat a.type ≡ true) × Valued v Unsigned
      r = fitted (is_fat a.type) at at Unsigned v j

      by : Sound n d g scope f b low a u h.own e ⊎ Refuses n d g scope f b low u → Denotes n d g scope f b low v (value_use u.look) (calls.counted e)
      by (inr y) = denotes_refused n d g scope f b low v u.look Unsigned (calls.counted e) tt tt r.1 y.look
      by (inl y) =
          let z : FatTo a.type = fat_to a.type r.0 in
          let it : IsObjectType z.to = subst (λ (q : StaticType). IsSimple q) z.is h.simple in
          let shows : ShowsBy n d g scope f b low u.look (Fat z.region z.to) e.look =
          subst (λ (q : StaticType). ShowsBy n d g scope f b low u.look q e.look) z.is y.look in
          denotes_value n d g scope f b low v u.look Unsigned UnsignedShape _ tt tt r.1 refl
          (λ s q. gives_counted n d g scope f b low s (u.look s).states z.region z.to e.look it (shows s q))

  -- a unique pointer is looked at where it is held; what isn't in order with its use has a fault
  pub denotes_indexed : (i : Enclosing) → g.lenient ≡ false → Structs d scope.world g.tables
      → (place : ℕ) (moves through own : Bool) (a c v : Value) (ua uc : Use) (e index : Sense) → (moves ≡ false → is_copyable g.tables v.type ≡ true)
      → (through ≡ false → (c : Bool) (t : StaticType) → a.type ≡ Unique c t → ua.whole ≡ true)
      → Denotes n d g scope f b low a ua e → Denotes n d g scope f b low c uc index → places.indexed (within i g) a c ≡ Of v
      → Denotes n d g scope f b low v (place_use place moves own (λ s. then_passed (uc.look s) (λ t. then_passed (ua.look t) (copy_if through place))))
      (indexed scope.world e index)
  denotes_indexed i strict structs place moves through own a c v ua uc e index copied whole h hc j = record {
    simple = subst (λ (y : StaticType). IsSimple y) (sym z.type) (object_simple z.to it);
    below = subst (λ (y : StaticType). TypeBelow g.regions.count y) (sym z.type) below.1;
    seated = subst (λ (y : Seat). SeatKnown g.regions y) (sym z.placed) (seat_known g i strict z.seat below.0 z.live);
    place = λ q. subst IsObjectType (sym z.type) it;
    own = false;
    sound = by h.sound hc.sound;
  }
    where
      fits : IsInteger c.type × PointsTo (within i g) a.type v
      fits = indexed_is (within i g) a c v j

      z : Indexes (within i g) a.type v
      z = indexes (within i g) a.type v fits.1

      agreed : Agrees scope.world d
      agreed = agrees d scope.world g.tables structs

      below : SeatBelow g.regions.count z.seat × TypeBelow g.regions.count z.to
      below = pointer_below g.regions.count a.type z.to z.seat z.is h.below

      it : IsObjectType z.to
      it = pointer_object a.type z.to z.seat z.is h.simple

      pointer : States → Passed
      pointer t = then_passed (ua.look t) (copy_if through place)

      act : States → Passed
      act s = then_passed (uc.look s) pointer

      by : Sound n d g scope f b low a ua h.own e ⊎ Refuses n d g scope f b low ua
          → Sound n d g scope f b low c uc hc.own index ⊎ Refuses n d g scope f b low uc
          → Sound n d g scope f b low v (place_use place moves own act) false (indexed scope.world e index)
          ⊎ Refuses n d g scope f b low (place_use place moves own act)
      by p (inr r) = inr (refuses_place n d g scope f b low place moves own act (λ s q. r.look s (passed_first uc.look pointer s q)))
      by (inr r) (inl q) = inr (refuses_place n d g scope f b low place moves own act
          (λ s q. r.look (uc.look s).states (passed_first ua.look (copy_if through place) (uc.look s).states (passed_second uc.look pointer s q))))
      by (inl p) (inl y) =
          let shape : e.shape ≡ shape_of a.type = p.shape (pointer_some a.type z.to z.seat z.is) in
          let leads : pointee e.shape ≡ shape_of z.to = ap pointee shape ∙ pointer_shape a.type z.to z.seat z.is in
          inl (sound_placed n d g scope f b low agreed v place moves own act (pointee e.shape) (reach (bound_in e.shape))
          (leads ∙ ap shape_of (sym z.type))
          (λ q. copyable_copied d scope.world g.tables f v.type structs (copied q))
          (subst (λ (q : Seat). FindsAny n d g scope f b low act false q v.type (reach (bound_in e.shape))) (sym z.placed)
          (subst (λ (t : StaticType). FindsAny n d g scope f b low act false z.seat t (reach (bound_in e.shape))) (sym z.type)
          (λ s none.
          let passed : (pointer (uc.look s).states).faults ≡ [] = passed_second uc.look pointer s none in
          let kept : (through ≡ false) × ((copy_if through place (ua.look (uc.look s).states).states).states ≡ (ua.look (uc.look s).states).states) =
          uncopied through place (ua.look (uc.look s).states).states (passed_second ua.look (copy_if through place) (uc.look s).states passed) in
          subst (λ (s2 : States). (k : ℕ) (w : Ghost) (m : Memory) → Inv d w m → Scene d g scope f b low s k w m
          → Runs n (reach (bound_in e.shape)) m
          (λ at. After d k b w m (λ w' m'. PlaceStands d f low false z.seat z.to at w' m' × Standing d g scope f s2 w' m'))) (sym kept.1)
          (found kept.0 s (passed_first uc.look pointer s none) (passed_first ua.look (copy_if through place) (uc.look s).states passed) a.type z.seat z.to
          (bound_in e.shape) refl z.is (ap bound_in shape) it
          (ap (λ (s : Shape). length (cells_of scope.world s)) leads ∙ cells_counted d scope.world f z.to agreed) z.live)))))
        where
          cells : ℕ
          cells = length (cells_of scope.world (pointee e.shape))

          reach : ℕ → Act Spot
          reach all = index.look >>= one >>= integer >>= λ k. e.look >>= one >>= indexed_span all k >>= λ p. accessed cells p

          found : through ≡ false → (s : States) → (uc.look s).faults ≡ [] → (ua.look (uc.look s).states).faults ≡ [] → (t : StaticType) (seat : Seat)
              (to : StaticType) (all : ℕ)
              → a.type ≡ t → IsPointer t seat to → all ≡ bound_in (shape_of t) → IsObjectType to → cells ≡ length (cells_type d f to)
              → SeatLives (within i g) seat → (k : ℕ) (w : Ghost) (m : Memory) → Inv d w m → Scene d g scope f b low s k w m
              → Runs n (reach all) m (λ at. After d k b w m (λ w' m'. PlaceStands d f low false seat to at w' m'
              × Standing d g scope f (ua.look (uc.look s).states).states w' m'))
          found held s first second t seat to all same (IsThin {n = m} {r = r}) bound word count live =
              subst (λ (all : ℕ). Finds n d g scope f b low s (ua.look (uc.look s).states).states to r (reach all)) (sym bound)
              (finds_subscripted n d g scope f b low s (uc.look s).states (ua.look (uc.look s).states).states m r to c.type cells index.look e.look word
              fits.0 count
              (strictly g r strict live) (y.look s first)
              (subst (λ (q : StaticType). Shows n d g scope f b low (uc.look s).states (ua.look (uc.look s).states).states q e.look) same
              (p.look (uc.look s).states second)))
          found held s first second t seat to all same (IsFat {r = r}) bound word count live =
              finds_indexed n d g scope f b low s (uc.look s).states (ua.look (uc.look s).states).states r to c.type cells all index.look e.look word
              fits.0 count
              (strictly g r strict live) (y.look s first)
              (subst (λ (q : StaticType). Shows n d g scope f b low (uc.look s).states (ua.look (uc.look s).states).states q e.look) same
              (p.look (uc.look s).states second))
          found held s first second t seat to all same (IsUnique {n = nullable}) bound word count live = λ k w m inv x.
              subst (λ (all : ℕ). Runs n (reach all) m (λ at. After d k b w m (λ w' m'. PlaceStands d f low false InBlock to at w' m'
              × Standing d g scope f (ua.look (uc.look s).states).states w' m'))) (sym (bound ∙ single_count nullable))
              (finds_block_element n d g scope f b low s (uc.look s).states (ua.look (uc.look s).states).states nullable to c.type cells k index.look e.look w m
              fits.0 (y.look s first)
              (subst (λ (q : StaticType). ShowsHeld n d g scope f b low (uc.look s).states (ua.look (uc.look s).states).states q e.look) same
              (p.held (whole held nullable to same) (uc.look s).states second)) inv x)
