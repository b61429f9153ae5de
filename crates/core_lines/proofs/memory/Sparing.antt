-- A store to a part that has an address, and a new object, spare the locals that are in registers.
use Rattle.std.specs.Prelude.{nat_eq, ◌&&◌, if◌then◌else◌}
use Rattle.std.proofs.Common.{◌≡◌, ℕ, ◌+◌, ◌≤◌, ◌<◌, Bool, true, false, Option, Some, None, refl, sym, ap, ◌∙◌, arith}
use Rattle.std.proofs.lemmas.Bool.{ne_eqb, and_parts, and_left, and_right}
use Rattle.std.proofs.lemmas.Option.{none-some}
use Rattle.core_meaning.specs.Memory.{Region, Frame, Spot, Content, Part, Memory, same_region, same_spot, with_part, with_object}
use Rattle.core_lines.specs.Lies.{Maps, Extends, local_at}
use Rattle.core_meaning.proofs.Spots.{region_same, spot_same}
use Rattle.core_lines.proofs.memory.Fitting.{extends_self}
use Rattle.core_lines.proofs.memory.Growing.{placed}
use Rattle.core_lines.proofs.homes.Homes.{Spares}

pub part_spares : (m : Maps) (mem : Memory) (s : Spot) (j : ℕ) (old : Part) (v : Content) (base : ℕ) → m.base s.region s.object ≡ Some base
    → mem.parts s j ≡ Some old → Spares m mem m (with_part mem s j (record old { content = v }))
part_spares m mem s j old v base known is = record {
  extends = extends_self m;
  unbased = λ k o made none. none;
  made = λ k. omega arith;
  parts = λ k o made none p e. by k o none p e (same_spot (local_at k o) s && nat_eq 0 j) refl;
}
  where
    by : (k o : ℕ) → m.base (Frame k) o ≡ None → (p : Part) → (with_part mem s j (record old { content = v })).parts (local_at k o) 0 ≡ Some p
        → (c : Bool) → (same_spot (local_at k o) s && nat_eq 0 j) ≡ c → mem.parts (local_at k o) 0 ≡ Some p
    by k o none p e true same =
        let both = and_parts (same_spot (local_at k o) s) (nat_eq 0 j) same in
        let is = spot_same (local_at k o) s both.0 in
        absurd (none-some base (sym none ∙ ap (λ (u : Spot). m.base u.region u.object) is ∙ known))
    by k o none p e false other = ap (λ c. if c then Some (record old { content = v }) else mem.parts (local_at k o) 0) (sym other) ∙ e

-- an object that was made isn't the next one
not_next : (mem : Memory) (r : Region) (k o : ℕ) → o < mem.objects (Frame k) → (same_region (Frame k) r && nat_eq o (mem.objects r)) ≡ false
not_next mem r k o made = by (same_region (Frame k) r) refl
  where
    by : (c : Bool) → same_region (Frame k) r ≡ c → (same_region (Frame k) r && nat_eq o (mem.objects r)) ≡ false
    by true same =
        let there : mem.objects (Frame k) ≡ mem.objects r = ap (λ q. mem.objects q) (region_same (Frame k) r same) in
        and_right (same_region (Frame k) r) (nat_eq o (mem.objects r)) (ne_eqb o (mem.objects r) (λ e. omega (arith, e, there, made)))
    by false other = and_left (same_region (Frame k) r) (nat_eq o (mem.objects r)) other

more_objects : (mem : Memory) (r : Region) (o : ℕ → ℕ → Option Part) (q : Region) → mem.objects q ≤ (with_object mem r o).objects q
more_objects mem r o q = by (same_region q r) refl
  where
    by : (c : Bool) → same_region q r ≡ c → mem.objects q ≤ (if c then mem.objects r + 1 else mem.objects q)
    by true same = let there : mem.objects q ≡ mem.objects r = ap (λ t. mem.objects t) (region_same q r same) in omega (arith, there)
    by false other = omega arith

-- a new object with an address
pub object_spares : (m : Maps) (mem : Memory) (r : Region) (o : ℕ → ℕ → Option Part) (x : ℕ) → Extends m (placed r (mem.objects r) x m)
    → Spares m mem (placed r (mem.objects r) x m) (with_object mem r o)
object_spares m mem r o x extends = record {
  extends = extends;
  unbased = λ k c made none. ap (λ b. if b then Some x else m.base (Frame k) c) (not_next mem r k c made) ∙ none;
  made = λ k. more_objects mem r o (Frame k);
  parts = λ k c made none p e. ap (λ b. if b then o 0 0 else mem.parts (local_at k c) 0) (sym (not_next mem r k c made)) ∙ e;
}

-- and one without
pub bare_spares : (m : Maps) (mem : Memory) (r : Region) (o : ℕ → ℕ → Option Part) → Spares m mem m (with_object mem r o)
bare_spares m mem r o = record {
  extends = extends_self m;
  unbased = λ k c made none. none;
  made = λ k. more_objects mem r o (Frame k);
  parts = λ k c made none p e. ap (λ b. if b then o 0 0 else mem.parts (local_at k c) 0) (sym (not_next mem r k c made)) ∙ e;
}
