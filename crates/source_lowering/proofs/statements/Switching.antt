-- A `switch` does the same as its code: its place is read once, and then comes the clause for the member that it holds.
use Rattle.std.proofs.Common.{◌≡◌, ℕ, suc, ◌+◌, List, [], ◌∷◌, ◌++◌, true, Option, Some, refl, sym, ap, ◌∙◌}
use Rattle.std.proofs.Common.{subst, arith}
use Rattle.std.specs.Prelude.{length}
use Rattle.source_meaning.specs.Shapes.{Shape, UnionShape, has_tag}
use Rattle.source_meaning.specs.Memory as source
use Rattle.source_meaning.specs.Memory.{Scalar, Spot, Tagged, Holds, is_live}
use Rattle.source_meaning.specs.Steps as steps
use Rattle.source_meaning.specs.Steps.{World, Flow, Act, give, need, ◌>>=◌}
use Rattle.source_meaning.specs.Conversions.{cells_of, one}
use Rattle.source_meaning.specs.Values.{read_cells}
use Rattle.source_meaning.specs.Places.{Sense, or_else}
use Rattle.source_meaning.specs.Statements as source_statements
use Rattle.source_meaning.specs.Statements.{Held, held_by}
use Rattle.core_meaning.specs.Memory as core
use Rattle.core_meaning.specs.Memory.{Pointer, Word}
use Rattle.core_meaning.specs.Core.{Program, Statement, Leave, Statements, NoStatements}
use Rattle.core_meaning.specs.Steps as core_steps
use Rattle.core_meaning.specs.Steps.{Config, with_temp}
use Rattle.core_meaning.specs.Meaning as meaning
use Rattle.source_lowering.specs.Lowered.{put, all_of}
use Rattle.source_lowering.specs.Members.{tag_load}
use Rattle.source_lowering.specs.Programs.{in_switch}
use Rattle.source_lowering.specs.Lowerable.{AreUnions}
use Rattle.source_lowering.specs.Simulation.{at, Point, SameState, SameAt, Same, Next, around, Leads, SameMemory}
use Rattle.source_lowering.proofs.memory.Keeping.{less_self, later_self, blocks_of, later_around}
use Rattle.source_lowering.proofs.memory.Copying.{AllHeld, read_all}
use Rattle.source_lowering.proofs.Runs.{put_all}
use Rattle.source_lowering.proofs.values.Values.{put_temp, other_temp, kept_temp, temp_fits, put_three}
use Rattle.source_lowering.proofs.expressions.Places.{PlacedAs}
use Rattle.source_lowering.proofs.statements.Ways.{WaysOn, RunsAs, ways_later}
use Rattle.source_lowering.proofs.statements.UnionReads.{HoldsMember, tag_read}
use Rattle.source_lowering.proofs.statements.Clauses.{switched, left_after, ways_switched, chosen, held_of, CasesAs}

-- ---- the place within

-- the place within a `switch`
abbrev pub in_clauses : Point → Point
in_clauses p = record p { regions = in_switch p.regions }

fits_clauses : (p : Point) (m : source.Memory) (c : Config) → SameState p m c → SameState (in_clauses p) m c
fits_clauses p m c f = record {
  agree = f.agree;
  blocks = f.blocks;
  locals = f.locals;
  statics = f.statics;
  begun = f.begun;
  made = f.made;
  pending = f.pending;
  own = f.own;
  called = f.called;
  stands = f.stands;
  owned = f.owned;
}

-- a union's value has a tag
held_same : (w : World) (fs : Program) (n : ℕ) (m : source.Memory) (c : core.Memory) (tag : List ℕ) (v : Scalar) (s : Held → source.Memory → steps.Step)
    (k : core_steps.Step) (t : Spot) → SameMemory w m c → m.cells t ≡ Some (record { shape = UnionShape tag; content = Holds v })
    → ((number : ℕ) (u : Scalar) → v ≡ Tagged number u → Same w fs n (s (held_of w tag number u) m) k)
    → Same w fs n (held_by w (UnionShape tag) v s m) k
held_same w fs n m c tag v s k t agree is go =
    let shown = (agree.cells t (UnionShape tag) (Holds v) v refl is).shown in
    subst (λ z. Same w fs n (held_by w (UnionShape tag) z s m) k) (sym shown.value) (go shown.number shown.held shown.value)

pub switch_same : (p : Point) (n : ℕ) (result : Shape) (tag : List ℕ) (e : Sense) (place cases others : List Statement) (found : Held → Option (Act Flow))
    (other : Option (Act Flow)) → AreUnions p.world.unions → has_tag p.world.unions tag ≡ true → e.shape ≡ UnionShape tag
    → PlacedAs p n p.regions.all (UnionShape tag) e.place place
    → ((s : List Scalar → source.Memory → steps.Step) (m : source.Memory)
    → e.look s m ≡ e.place (λ t. read_cells (length (cells_of p.world e.shape)) t s) m)
    → CasesAs (in_clauses p) n result tag (λ number v. found (held_of p.world tag number v)) cases
    → RunsAs (in_clauses p) n (suc p.frame) result (chosen other) others
    → RunsAs p n (suc p.frame) result
    (e.look >>= one >>= held_by p.world e.shape >>= λ held. need (or_else (found held) other) >>= λ clause. clause >>= λ flow. give
    (source_statements.after_switch flow))
    (Leave (all_of (place ++ (tag_load (p.regions.all + 1) p.regions.all ++ (cases ++ others)))) ∷ [])
switch_same p n result tag e place cases others found other unions known shape placed looks clauses last = record {
  same = λ m c next rest after fits ways.
      let outer : Next = λ exit. meaning.falls_to exit (meaning.statements rest after) after in
      subst (λ z. SameAt p n z (meaning.statements (all_of (place ++ (tag_load (d + 1) d ++ (cases ++ others)))) (left_after outer) c))
      (sym (looks (λ vs. one vs (λ v. held_by p.world e.shape v (after_held next))) m))
      (subst (λ z. SameAt p n (e.place (λ t. read_cells (length (cells_of p.world z)) t (λ vs. one vs (λ v. held_by p.world z v (after_held next)))) m)
      (meaning.statements (all_of (place ++ (tag_load (d + 1) d ++ (cases ++ others)))) (left_after outer) c)) (sym shape)
      (subst (λ z. SameAt p n (e.place (λ t. read_cells 1 t (λ vs. one vs (λ v. held_by p.world (UnionShape tag) v (after_held next)))) m)
      (meaning.statements z (left_after outer) c)) (sym (put_three place (tag_load (d + 1) d) (cases ++ others) NoStatements ∙
      ap (λ z. put place (put (tag_load (d + 1) d) z)) (put_all cases others NoStatements)))
      (placed.same m c (λ t. read_cells 1 t (λ vs. one vs (λ v. held_by p.world (UnionShape tag) v (after_held next)))) (behind_place) (left_after outer) fits
      (record {
        above = omega arith;
        go = λ m1 c1 t byte fits1 later1 kept1 temp lies leads.
            read_all p.world p.program n (UnionShape tag ∷ []) m1 t (λ vs. one vs (λ v. held_by p.world (UnionShape tag) v (after_held next)))
            (meaning.statements behind_place (left_after outer) c1) leads.0
            (λ vs held live.
            held_one m1 c1 t byte vs next outer fits1 temp leads held live
            (ways_later p.world p.program n p.regions (around p (suc p.frame)) (around p (suc p.frame)) m m1 c c1 result next (outer core_steps.Falls) outer
            (less_self (around p (suc p.frame))) (later_around p m m1 c c1 later1) (blocks_of p m m1 c c1 fits fits1) kept1
            (record { falls = ways.falls; breaks = ways.breaks; continues = ways.continues; returns = ways.returns })));
      }))));
}
  where
    d : ℕ
    d = p.regions.all

    after_held : (Flow → source.Memory → steps.Step) → Held → source.Memory → steps.Step
    after_held next held = chosen (or_else (found held) other) (switched next)

    behind_place : Statements
    behind_place = put (tag_load (d + 1) d) (put cases (all_of others))

    held_one : (m1 : source.Memory) (c1 : Config) (t : Spot) (byte : ℕ) (vs : List Scalar) (next : Flow → source.Memory → steps.Step) (outer : Next)
        → SameState p m1 c1 → c1.temps d ≡ Pointer (at t) byte → Leads p.world m1 c1.memory (UnionShape tag) t byte → AllHeld m1 t (UnionShape tag ∷ []) vs
        → is_live m1 t.region ≡ true
        → WaysOn p.world p.program n p.regions (around p (suc p.frame)) m1 c1 result next (outer core_steps.Falls) outer
        → SameAt p n (one vs (λ v. held_by p.world (UnionShape tag) v (after_held next)) m1) (meaning.statements behind_place (left_after outer) c1)
    held_one m1 c1 t byte [] next outer fits1 temp leads held live ways = absurd held
    held_one m1 c1 t byte (v ∷ u ∷ us) next outer fits1 temp leads held live ways = absurd held.1
    held_one m1 c1 t byte (v ∷ []) next outer fits1 temp leads held live ways =
        held_same p.world p.program n m1 c1.memory tag v (after_held next) (meaning.statements behind_place (left_after outer) c1) t fits1.agree held.0
        (λ number u is.
        let there : HoldsMember p.world m1 c1.memory tag number u t byte = record {
          known = known;
          holds = held.0 ∙ ap (λ z. Some (record { shape = UnionShape tag; content = Holds z })) is;
          live = live;
          leads = leads;
        } in
        let c2 : Config = with_temp (d + 1) (Word number) c1 in
        subst (λ z. SameAt p n (after_held next (held_of p.world tag number u) m1) z)
        (sym (tag_read p.world m1 c1 tag number u t byte (d + 1) d (put cases (all_of others)) (left_after outer) unions fits1.agree there temp))
        (clauses.same other others last m1 c2 next outer number u t byte (fits_clauses p m1 c2 (temp_fits p m1 c1 (d + 1) (Word number) fits1 (omega arith)))
        (record {
          holds = record { known = there.known; holds = there.holds; live = there.live; leads = there.leads };
          pointer = other_temp (d + 1) d (Word number) c1 (omega arith) ∙ temp;
          tagged = put_temp (d + 1) (Word number) c1;
        })
        (ways_switched p.world p.program n p.regions (around p (suc p.frame)) m1 c2 result next outer
        (ways_later p.world p.program n p.regions (around p (suc p.frame)) (around p (suc p.frame)) m1 m1 c1 c2 result next (outer core_steps.Falls) outer
        (less_self (around p (suc p.frame))) (later_self (around p (suc p.frame)) m1 c1.memory) refl
        (kept_temp d (d + 1) (Word number) c1 c1 (omega arith) (λ k less. refl)) ways))))
