-- What `*` and `&` denote, from what their parts do.
use Rattle.std.proofs.Common.{◌≡◌, ℕ, Bool, true, false, ◌⊎◌, inl, inr, Some, [], ◌∷◌, refl, sym, ◌∙◌, ap, subst}
use Rattle.std.specs.Prelude.{◌||◌, length}
use Rattle.source_meaning.specs.Shapes.{NeverNull}
use Rattle.source_meaning.specs.Shapes.{Shared, Shape, ThinShape, pointee}
use Rattle.source_meaning.specs.Memory as memory
use Rattle.source_meaning.specs.Memory.{Region, Memory}
use Rattle.source_meaning.specs.Steps.{Scope, give, ◌>>=◌}
use Rattle.source_meaning.specs.Conversions.{cells_of, one, accessed}
use Rattle.source_meaning.specs.Places.{Sense, contents, address_of}
use Rattle.source_typing.specs.Verdicts.{Of}
use Rattle.source_typing.specs.Places as places
use Rattle.source_typing.specs.Scope.{Env, Enclosing, Value, Seat, Nowhere, In, InBlock, is_place}
use Rattle.source_typing.specs.Tables.{is_copyable}
use Rattle.source_typing.specs.Types.{
  StaticType,
  Thin,
  Unique,
  shape_of,
}
use Rattle.source_typing.specs.Moves.{Use, value_use, place_use, copy_if}
use Rattle.source_typing.specs.States.{States, Passed, then_passed}
use Rattle.type_proof.specs.Flat.{Tables}
use Rattle.source_typing.specs.Named.{Below, TypeBelow}
use Rattle.type_proof.proofs.invariant.Invariant.{Ghost, Inv}
use Rattle.type_proof.proofs.invariant.After.{After}
use Rattle.type_proof.proofs.invariant.Arguments.{Agrees}
use Rattle.type_proof.proofs.invariant.Names.{NameOf}
use Rattle.type_proof.proofs.invariant.Sound.{cells_type, PlaceStands, Gives, Shows, ShowsHeld, Sound, passed_first, passed_second}
use Rattle.type_proof.proofs.invariant.Standing.{Standing}
use Rattle.type_proof.proofs.invariant.Layouts.{Structs, agrees}
use Rattle.type_proof.proofs.invariant.Copyable.{copyable_copied}
use Rattle.type_proof.proofs.invariant.Runs.{Runs}
use Rattle.type_proof.proofs.invariant.Scenes.{Scene}
use Rattle.type_proof.proofs.expressions.BlockPlaces.{finds_block}
use Rattle.type_proof.proofs.expressions.Elements.{cells_counted}
use Rattle.type_proof.proofs.expressions.Places.{sound_placed, uncopied}
use Rattle.type_proof.proofs.expressions.WordRules.{value_of, IsPointer, IsThin, IsFat, IsUnique, pointer_object, pointer_some, pointer_below, pointer_shape}
use Rattle.type_proof.proofs.expressions.WordRules.{Pointed, SeatBelow, SeatKnown, SeatLives, contents_is}
use Rattle.type_proof.proofs.expressions.Words.{IsObjectType, object_simple, object_some}
use Rattle.type_proof.proofs.expressions.Pointers.{
  finds_contents,
  gives_address,
}
use Rattle.type_proof.proofs.expressions.Spans.{finds_element}
use Rattle.type_proof.proofs.expressions.Fixed.{within}
use Rattle.type_proof.proofs.Entries.{strictly}
use Rattle.type_proof.proofs.expressions.Forms.{Denotes, Refuses, denotes_refused, denotes_value, refuses_place}

-- where regions are looked at strictly, a place in a live one is known to be there
pub seat_known : (g : Env) (i : Enclosing) → g.lenient ≡ false → (s : Seat) → SeatBelow g.regions.count s → SeatLives (within i g) s → SeatKnown g.regions s
seat_known g i strict Nowhere l y = tt
seat_known g i strict (In r) l y = (l, strictly g r strict y)
seat_known g i strict InBlock l y = tt

module _ (n : ℕ) (d : Tables) (g : Env) (scope : Scope) (f : NameOf → Region) (b : ℕ) (low : ℕ) where
  -- a place by what a pointer that is looked at leads to; what isn't in order with its use has a fault
  pub denotes_contents : (i : Enclosing) → g.lenient ≡ false → Structs d scope.world g.tables
      → (at place : ℕ) (moves through : Bool) (a v : Value) (u : Use) (e : Sense) → (moves ≡ false → is_copyable g.tables v.type ≡ true)
      → (through ≡ false → (c : Bool) (t : StaticType) → a.type ≡ Unique c t → u.whole ≡ true)
      → Denotes n d g scope f b low a u e
      → places.contents (within i g) at a ≡ Of v
      → Denotes n d g scope f b low v (place_use place moves false (λ s. then_passed (u.look s) (copy_if through place))) (contents scope.world e)
  denotes_contents i strict structs at place moves through a v u e copied whole h j =
      let z : Pointed (within i g) at a.type v = contents_is (within i g) at a.type v h.simple j in
      subst (λ (y : Value). Denotes n d g scope f b low y (place_use place moves false act) (contents scope.world e)) z.value_is
      (pointed z (λ c. ap (λ (y : Value). is_copyable g.tables y.type) z.value_is ∙ copied c))
    where
      act : States → Passed
      act s = then_passed (u.look s) (copy_if through place)

      agreed : Agrees scope.world d
      agreed = agrees d scope.world g.tables structs

      -- where it leads
      found : Sound n d g scope f b low a u h.own e → through ≡ false → (s : States) → (u.look s).faults ≡ [] → (t to : StaticType) (seat : Seat) (cells : ℕ)
          → a.type ≡ t → IsPointer t seat to → IsObjectType to → cells ≡ length (cells_type d f to)
          → SeatLives (within i g) seat → (k : ℕ) (w : Ghost) (m : Memory) → Inv d w m → Scene d g scope f b low s k w m
          → Runs n (e.look >>= one >>= λ p. accessed cells p) m
          (λ at. After d k b w m (λ w' m'. PlaceStands d f low false seat to at w' m' × Standing d g scope f (u.look s).states w' m'))
      found y c s none t to seat cells same (IsThin {n = q} {r = r}) word count live =
          finds_contents n d g scope f b low s (u.look s).states q r to cells e.look word (strictly g r strict live)
          (subst (λ (p : StaticType). Shows n d g scope f b low s (u.look s).states p e.look) same (y.look s none))
      found y c s none t to seat cells same (IsFat {r = r}) word count live =
          finds_element n d g scope f b low s (u.look s).states r to cells e.look word count (strictly g r strict live)
          (subst (λ (p : StaticType). Shows n d g scope f b low s (u.look s).states p e.look) same (y.look s none))
      found y c s none t to seat cells same (IsUnique {n = q}) word count live =
          λ k w m inv x. finds_block n d g scope f b low s (u.look s).states q to cells k e.look w m
          (subst (λ (p : StaticType). ShowsHeld n d g scope f b low s (u.look s).states p e.look) same (y.held (whole c q to same) s none)) inv x

      pointed : (z : Pointed (within i g) at a.type v) → (moves ≡ false → is_copyable g.tables z.to ≡ true)
          → Denotes n d g scope f b low (record { at = at; type = z.to; seat = z.seat }) (place_use place moves false act) (contents scope.world e)
      pointed z copies = record {
        simple = object_simple z.to word;
        below = below.1;
        seated = seat_known g i strict z.seat below.0 z.live;
        place = λ q. word;
        own = false;
        sound = by h.sound;
      }
        where
          below : SeatBelow g.regions.count z.seat × TypeBelow g.regions.count z.to
          below = pointer_below g.regions.count a.type z.to z.seat z.is h.below

          word : IsObjectType z.to
          word = pointer_object a.type z.to z.seat z.is h.simple

          by : Sound n d g scope f b low a u h.own e ⊎ Refuses n d g scope f b low u
              → Sound n d g scope f b low (record { at = at; type = z.to; seat = z.seat }) (place_use place moves false act) false (contents scope.world e)
              ⊎ Refuses n d g scope f b low (place_use place moves false act)
          by (inr r) = inr (refuses_place n d g scope f b low place moves false act (λ s q. r.look s (passed_first u.look (copy_if through place) s q)))
          by (inl y) =
              let leads : pointee e.shape ≡ shape_of z.to =
              ap pointee (y.shape (pointer_some a.type z.to z.seat z.is)) ∙ pointer_shape a.type z.to z.seat z.is in
              inl (sound_placed n d g scope f b low agreed (record { at = at; type = z.to; seat = z.seat }) place moves false act (pointee e.shape) _ leads
              (λ c. copyable_copied d scope.world g.tables f z.to structs (copies c))
              (λ s k.
              let c : (through ≡ false) × ((copy_if through place (u.look s).states).states ≡ (u.look s).states) =
              uncopied through place (u.look s).states (passed_second u.look (copy_if through place) s k) in
              subst (λ (s2 : States). (k : ℕ) (w : Ghost) (m : Memory) → Inv d w m → Scene d g scope f b low s k w m
              → Runs n (e.look >>= one >>= λ p. accessed (length (cells_of scope.world (pointee e.shape))) p) m
              (λ at. After d k b w m (λ w' m'. PlaceStands d f low false z.seat z.to at w' m' × Standing d g scope f s2 w' m'))) (sym c.1)
              (found y c.0 s (passed_first u.look (copy_if through place) s k) a.type z.to z.seat
              (length (cells_of scope.world (pointee e.shape))) refl z.is word
              (ap (λ (s : Shape). length (cells_of scope.world s)) leads ∙ cells_counted d scope.world f z.to agreed) z.live)))

  not_either : (x y : Bool) (at : ℕ) (s : States) → (copy_if (x || y) at s).faults ≡ [] → (x ≡ false) × ((copy_if (x || y) at s).states ≡ s)
  not_either true y at s e = absurd cc
  not_either false true at s e = absurd cc
  not_either false false at s e = (refl, refl)

  not_second : (x y : Bool) (at : ℕ) (s : States) → y ≡ true → (copy_if (x || y) at s).faults ≡ [] → ⊥
  not_second true y at s h e = cc
  not_second false true at s h e = cc
  not_second false false at s h e = cc

  -- `&` of a place in a block is refused
  pub denotes_address : (at place : ℕ) (inside : Bool) (a v : Value) (u : Use) (e : Sense) → (a.seat ≡ InBlock → inside ≡ true)
      → Denotes n d g scope f b low a u e → places.address at a ≡ Of v
      → Denotes n d g scope f b low v (value_use (λ s. then_passed (u.place s) (copy_if (u.own || inside) place))) (address_of e)
  denotes_address at place inside a v u e block h j = by a.seat refl j
    where
      by : (s : Seat) → a.seat ≡ s → places.address_of at a.type s ≡ Of v
          → Denotes n d g scope f b low v (value_use (λ s. then_passed (u.place s) (copy_if (u.own || inside) place))) (address_of e)
      by Nowhere z k = absurd cc
      by InBlock z k =
          denotes_refused n d g scope f b low v (λ s. then_passed (u.place s) (copy_if (u.own || inside) place)) (Unique false a.type) (address_of e)
          (h.place (ap is_place z)) h.below (value_of at (Unique false a.type) v k)
          (λ s q. not_second u.own inside place (u.place s).states (block z) (passed_second u.place (copy_if (u.own || inside) place) s q))
      by (In r) z k = pointed h.sound
        where
          word : IsObjectType a.type
          word = h.place (ap is_place z)

          below : Below g.regions.count r × TypeBelow g.regions.count a.type
          below = ((subst (λ (y : Seat). SeatKnown g.regions y) z h.seated).0, h.below)

          pointed : Sound n d g scope f b low a u h.own e ⊎ Refuses n d g scope f b low u
              → Denotes n d g scope f b low v (value_use (λ s. then_passed (u.place s) (copy_if (u.own || inside) place))) (address_of e)
          pointed (inr y) =
              denotes_refused n d g scope f b low v (λ s. then_passed (u.place s) (copy_if (u.own || inside) place)) (Thin (NeverNull 1) r a.type)
              (address_of e) word below
              (value_of at (Thin (NeverNull 1) r a.type) v k)
              (λ s q. y.place s (passed_first u.place (copy_if (u.own || inside) place) s q))
          pointed (inl y) =
              denotes_value n d g scope f b low v (λ s. then_passed (u.place s) (copy_if (u.own || inside) place)) (Thin (NeverNull 1) r a.type)
              (ThinShape (NeverNull 1) Shared e.shape) _ word below
              (value_of at (Thin (NeverNull 1) r a.type) v k)
              (ap (ThinShape (NeverNull 1) Shared) (y.shape (object_some a.type word)))
              (λ s q.
              let c : (u.own ≡ false) × ((copy_if (u.own || inside) place (u.place s).states).states ≡ (u.place s).states) =
              not_either u.own inside place (u.place s).states (passed_second u.place (copy_if (u.own || inside) place) s q) in
              subst (λ (s2 : States). Gives n d g scope f b low s s2 (Thin (NeverNull 1) r a.type)
              (e.place >>= λ s. give (memory.Thin (Some s) ∷ []))) (sym c.1)
              (gives_address n d g scope f b low s (u.place s).states r a.type e.place
              (y.pointed c.0 r z s (passed_first u.place (copy_if (u.own || inside) place) s q))))
