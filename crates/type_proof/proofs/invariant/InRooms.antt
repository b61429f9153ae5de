-- The locals of a function lie in its blocks.
use Rattle.std.proofs.Common.{◌≡◌, ℕ, ◌<◌, ◌≤◌, Bool, true, false, Some, List, [], ◌∷◌, sym, ◌∙◌, ap, subst, arith}
use Rattle.std.specs.Prelude.{bytes_eq, if◌then◌else◌}
use Rattle.source_meaning.specs.Shapes.{Shape}
use Rattle.source_meaning.specs.Memory.{Frame, Spot}
use Rattle.source_meaning.specs.Steps.{Entity, Binding, Variable}
use Rattle.source_meaning.specs.Places.{bound_to}
use Rattle.type_proof.proofs.invariant.Standing.{InRoom, Rooms, EntityWithin, AllWithin}

-- a variable that is found lies in a block of the function
pub room_found : (b : ℕ) (bs : List Binding) (x : List ℕ) (sh : Shape) (at : Spot) → Rooms b bs → bound_to bs x ≡ Some (Variable sh at) → (j : ℕ) → at.region
    ≡ Frame j → b ≤ j
room_found b [] x sh at h e j r = absurd cc
room_found b (y ∷ bs) x sh at h e j r = by (bytes_eq y.name x) (λ q. room_found b bs x sh at h.1 q j r) e
  where
    one : (z : Entity) → InRoom b z bs → z ≡ Variable sh at → b ≤ j
    one (Variable sh2 s) room q =
        let p : s ≡ at = cc in
        let z : Frame room.frame ≡ Frame j = sym room.region ∙ (ap (λ (c : Spot). c.region) p ∙ r) in
        let c : room.frame ≡ j = cc in let l = room.own in omega (arith, l, c)

    by : (c : Bool) → (bound_to bs x ≡ Some (Variable sh at) → b ≤ j) → (if c then Some y.entity else bound_to bs x) ≡ Some (Variable sh at) → b ≤ j
    by true others q = one y.entity h.0 (let z : y.entity ≡ Variable sh at = cc in z)
    by false others q = others q

-- in which, and that it is one of those so far
pub record InFrame (count b : ℕ) (at : Spot) : Type 0 where
  pub frame : ℕ
  pub region : at.region ≡ Frame frame
  pub known : frame < count
  pub own : b ≤ frame

pub in_frame : (count b : ℕ) (bs : List Binding) (x : List ℕ) (sh : Shape) (at : Spot) → Rooms b bs → AllWithin count bs → bound_to bs x ≡ Some (Variable sh at)
    → InFrame count b at
in_frame count b [] x sh at h w e = absurd cc
in_frame count b (y ∷ bs) x sh at h w e = by (bytes_eq y.name x) (λ q. in_frame count b bs x sh at h.1 w.1 q) e
  where
    one : (z : Entity) → InRoom b z bs → EntityWithin count z → z ≡ Variable sh at → InFrame count b at
    one (Variable sh2 s) room within q =
        let p : s ≡ at = cc in
        subst (λ (o : Spot). InFrame count b o) p (record { frame = room.frame; region = room.region; known = within room.frame room.region; own = room.own })

    by : (c : Bool) → (bound_to bs x ≡ Some (Variable sh at) → InFrame count b at) → (if c then Some y.entity else bound_to bs x) ≡ Some (Variable sh at)
        → InFrame count b at
    by true others q = one y.entity h.0 w.0 (let z : y.entity ≡ Variable sh at = cc in z)
    by false others q = others q
