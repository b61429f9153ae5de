-- Places at a distance from a pointer, members among them, and the pointers to them.
use Rattle.std.proofs.Common.{◌≡◌, ℕ, zero, suc, ◌+◌, List, ◌++◌, refl, sym, subst, arith, ◌≤◌}
use Rattle.source_meaning.specs.Shapes.{Shape}
use Rattle.source_meaning.specs.Sizes.{cells_before}
use Rattle.source_meaning.specs.Memory as source
use Rattle.source_meaning.specs.Memory.{Spot}
use Rattle.source_meaning.specs.Steps as steps
use Rattle.source_meaning.specs.Steps.{give, ◌>>=◌}
use Rattle.source_meaning.specs.Conversions.{cells_of}
use Rattle.source_meaning.specs.Places.{struct_parts}
use Rattle.core_meaning.specs.Memory as core
use Rattle.core_meaning.specs.Memory.{Content, Pointer}
use Rattle.core_meaning.specs.Core.{Statement, Offset, Statements}
use Rattle.core_meaning.specs.Steps as core_steps
use Rattle.core_meaning.specs.Steps.{Config, with_temp}
use Rattle.core_meaning.specs.Meaning as meaning
use Rattle.core_meaning.specs.Operations.{does}
use Rattle.source_lowering.specs.Layouts.{extent_of, bytes_before}
use Rattle.source_lowering.specs.Lowered.{put, member_shape, offset_code}
use Rattle.source_lowering.specs.Lowerable.{IsObject, AreStructs}
use Rattle.source_lowering.specs.Simulation.{at, IsTakenObject, Leads, Point, SameState, SameAt, Next, AreKept, GrownAt}
use Rattle.source_lowering.proofs.Runs.{put_all}
use Rattle.source_lowering.proofs.memory.Members.{FirstPart, first_part_of, first_reached, beyond_on, beyond_zero, member_is}
use Rattle.source_lowering.proofs.values.Values.{put_temp, kept_temp, temp_fits, over}
use Rattle.source_lowering.proofs.expressions.Places.{PlaceGoesOn, PlacedAs}

-- ---- forms

-- a pointer is in a temporary, and the place lies so many cells and bytes on from where it leads; the temporaries below are as they were
pub record ReachGoesOn (p : Point) (n d cells bytes : ℕ) (m0 : source.Memory) (c0 : Config) (shape : Shape) (s : Spot → source.Memory → steps.Step)
    (k : Config → core_steps.Step) : Type 0 where
  pub above : p.regions.all ≤ d
  pub go : (m : source.Memory) (c : Config) (t : Spot) (byte : ℕ) → SameState p m c → GrownAt p m0 c0 m c → AreKept d c0 c → c.temps d ≡ Pointer (at t) byte
      → IsTakenObject p.world shape → Leads p.world m c.memory shape (source.beyond t cells) (byte + bytes)
      → SameAt p n (s (source.beyond t cells) m) (k c)

-- an act gives the place that lies so far on from where its code leaves a pointer
pub record ReachedAs (p : Point) (n d cells bytes : ℕ) (shape : Shape) (act : steps.Act Spot) (code : List Statement) : Type 0 where
  pub same : (m : source.Memory) (c : Config) (s : Spot → source.Memory → steps.Step) (rest : Statements) (next : Next) → SameState p m c
      → ReachGoesOn p n d cells bytes m c shape s (meaning.statements rest next) → SameAt p n (act s m) (meaning.statements (put code rest) next c)

no_more : (byte : ℕ) → byte ≡ byte + 0
no_more byte = omega arith

-- a pointer to the place itself
pub placed_reached : (p : Point) (n d : ℕ) (shape : Shape) (act : steps.Act Spot) (code : List Statement) → PlacedAs p n d shape act code
    → ReachedAs p n d 0 0 shape act code
placed_reached p n d shape act code placed = record {
  same = λ m c s rest next fits goes.
      placed.same m c s rest next fits (record {
        above = over goes.above (omega arith);
        go = λ m1 c1 t byte fits1 later1 kept1 temp lies leads.
            subst (λ z. SameAt p n (s z m1) (meaning.statements rest next c1)) (sym (beyond_zero t))
            (goes.go m1 c1 t byte fits1 later1 kept1 temp lies
            (subst (λ z. Leads p.world m1 c1.memory shape z (byte + 0)) (beyond_zero t)
            (subst (λ z. Leads p.world m1 c1.memory shape t z) (no_more byte) leads)));
      });
}

offset_does : (c : Config) (d cells bytes byte : ℕ) (t : core.Spot) (next : Config → core_steps.Step) → c.temps d ≡ Pointer t byte
    → FirstPart c.memory (core.beyond t cells) (byte + bytes)
    → does (Offset d d cells bytes) next c ≡ next (with_temp d (Pointer (core.beyond t cells) (byte + bytes)) c)
offset_does c d cells bytes byte t next temp first = rw (temp, first_reached c.memory (core.beyond t cells) (byte + bytes) first) refl

-- a pointer to a place at a distance
pub reached_placed : (p : Point) (n d cells bytes : ℕ) (shape : Shape) (act : steps.Act Spot) (code : List Statement)
    → ReachedAs p n d cells bytes shape act code → PlacedAs p n d shape act (code ++ offset_code d cells bytes)
reached_placed p n d cells bytes shape act code reached = record {
  same = λ m c s rest next fits goes.
      subst (λ z. SameAt p n (act s m) (meaning.statements z next c)) (sym (put_all code (offset_code d cells bytes) rest))
      (reached.same m c s (put (offset_code d cells bytes) rest) next fits (record {
        above = over goes.above (omega arith);
        go = λ m1 c1 t byte fits1 later1 kept1 temp lies leads. by cells bytes m c s rest next goes m1 c1 t byte fits1 later1 kept1 temp lies leads;
      }));
}
  where
    further : (i j : ℕ) (m : source.Memory) (c : Config) (s : Spot → source.Memory → steps.Step) (rest : Statements) (next : Next)
        → PlaceGoesOn p n d m c shape s (meaning.statements rest next) → (m1 : source.Memory) (c1 : Config) (t : Spot) (byte : ℕ) → SameState p m1 c1
        → GrownAt p m c m1 c1 → AreKept d c c1 → c1.temps d ≡ Pointer (at t) byte → IsTakenObject p.world shape
        → Leads p.world m1 c1.memory shape (source.beyond t i) (byte + j)
        → SameAt p n (s (source.beyond t i) m1) (does (Offset d d i j) (meaning.statements rest next) c1)
    further i j m c s rest next goes m1 c1 t byte fits1 later1 kept1 temp lies leads =
        let x : Content = Pointer (core.beyond (at t) i) (byte + j) in
        subst (λ z. SameAt p n (s (source.beyond t i) m1) z)
        (sym (offset_does c1 d i j byte (at t) (meaning.statements rest next) temp
        (first_part_of p.world c1.memory shape (at (source.beyond t i)) (byte + j) lies.cells leads.1)))
        (goes.go m1 (with_temp d x c1) (source.beyond t i) (byte + j) (temp_fits p m1 c1 d x fits1 goes.above) later1 (kept_temp d d x c c1 (omega arith) kept1)
        (put_temp d x c1) lies leads)

    by : (i j : ℕ) (m : source.Memory) (c : Config) (s : Spot → source.Memory → steps.Step) (rest : Statements) (next : Next)
        → PlaceGoesOn p n d m c shape s (meaning.statements rest next) → (m1 : source.Memory) (c1 : Config) (t : Spot) (byte : ℕ) → SameState p m1 c1
        → GrownAt p m c m1 c1 → AreKept d c c1 → c1.temps d ≡ Pointer (at t) byte → IsTakenObject p.world shape
        → Leads p.world m1 c1.memory shape (source.beyond t i) (byte + j)
        → SameAt p n (s (source.beyond t i) m1) (meaning.statements (put (offset_code d i j) rest) next c1)
    by zero zero m c s rest next goes m1 c1 t byte fits1 later1 kept1 temp lies leads =
        subst (λ z. SameAt p n (s z m1) (meaning.statements rest next c1)) (beyond_zero t)
        (goes.go m1 c1 t byte fits1 later1 kept1 temp lies
        (subst (λ z. Leads p.world m1 c1.memory shape z byte) (sym (beyond_zero t))
        (subst (λ z. Leads p.world m1 c1.memory shape (source.beyond t 0) z) (sym (no_more byte)) leads)))
    by zero (suc j) m c s rest next goes m1 c1 t byte fits1 later1 kept1 temp lies leads =
        further 0 (suc j) m c s rest next goes m1 c1 t byte fits1 later1 kept1 temp lies leads
    by (suc i) j m c s rest next goes m1 c1 t byte fits1 later1 kept1 temp lies leads =
        further (suc i) j m c s rest next goes m1 c1 t byte fits1 later1 kept1 temp lies leads

-- ---- members

-- a member lies further on
pub member_reached : (p : Point) (n d cells bytes : ℕ) (shape : Shape) (f : List ℕ) (act : steps.Act Spot) (code : List Statement)
    → AreStructs p.world.unions p.world.structs → IsObject p.world.unions p.world.structs (member_shape p.world shape f)
    → ReachedAs p n d cells bytes shape act code
    → ReachedAs p n d (cells + cells_before (cells_of p.world) (struct_parts p.world shape) f)
    (bytes + bytes_before (extent_of p.world) 0 (struct_parts p.world shape) f) (member_shape p.world shape f)
    (act >>= λ s. give (source.beyond s (cells_before (cells_of p.world) (struct_parts p.world shape) f))) code
member_reached p n d cells bytes shape f act code structs object reached = record {
  same = λ m c s rest next fits goes.
      reached.same m c (λ t. s (source.beyond t before)) rest next fits (record {
        above = over goes.above (omega arith);
        go = λ m1 c1 t byte fits1 later1 kept1 temp lies leads.
            let at_member = member_is p.world m1 c1.memory shape (source.beyond t cells) (byte + bytes) f structs object lies leads in
            let here = beyond_on t cells before (cells + before) refl in
            let there = further byte in
            subst (λ z. SameAt p n (s z m1) (meaning.statements rest next c1)) (sym here)
            (goes.go m1 c1 t byte fits1 later1 kept1 temp at_member.lies
            (subst (λ z. Leads p.world m1 c1.memory (member_shape p.world shape f) z (byte + (bytes + more))) here
            (subst (λ z. Leads p.world m1 c1.memory (member_shape p.world shape f) (source.beyond (source.beyond t cells) before) z) there at_member.leads)));
      });
}
  where
    before : ℕ
    before = cells_before (cells_of p.world) (struct_parts p.world shape) f

    more : ℕ
    more = bytes_before (extent_of p.world) 0 (struct_parts p.world shape) f

    further : (byte : ℕ) → byte + bytes + more ≡ byte + (bytes + more)
    further byte = omega arith
