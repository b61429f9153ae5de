-- The clauses of a `switch` do the same as their code: the tag is compared one after the other, and the member is copied to its clause's first local.
use Rattle.std.proofs.Common.{◌≡◌, ℕ, suc, ◌+◌, ◌%◌, ◌^◌, ◌<◌, List, [], ◌∷◌, ◌++◌, Bool, true, false, nat_eq, Option, Some, None, refl, sym, ap, ◌∙◌}
use Rattle.std.proofs.Common.{subst, arith}
use Rattle.std.proofs.lemmas.Bool.{eqb-true, eq-eqb}
use Rattle.std.proofs.lemmas.Bool.Decides.{nat_tests}
use Rattle.std.specs.Prelude.{if◌then◌else◌, slice_get}
use Rattle.source_meaning.specs.Shapes.{Shape, UnionShape, parts_of, part_shapes}
use Rattle.source_meaning.specs.Memory as source
use Rattle.source_meaning.specs.Memory.{Scalar, Spot, is_live, same_region, state_is_live}
use Rattle.source_meaning.specs.Steps as steps
use Rattle.source_meaning.specs.Steps.{World, Scope, Variable, Flow, Act, need, ◌>>=◌}
use Rattle.source_meaning.specs.Places.{or_else, with_binding}
use Rattle.source_meaning.specs.Regions.{in_block, local_with}
use Rattle.source_meaning.specs.Statements as source_statements
use Rattle.source_meaning.specs.Statements.{Held}
use Rattle.core_meaning.specs.Memory.{Pointer, Word}
use Rattle.core_meaning.specs.Core.{Program, Statement, Do, Constant, Apply, Equal, If, Block, Break, Statements, NoStatements, MoreStatements}
use Rattle.core_meaning.specs.Words.{truth}
use Rattle.core_meaning.specs.Steps as core_steps
use Rattle.core_meaning.specs.Steps.{Config, with_temp}
use Rattle.core_meaning.specs.Operations.{does}
use Rattle.core_meaning.specs.Meaning as meaning
use Rattle.source_lowering.specs.Lowered.{put, all_of, put_local}
use Rattle.source_lowering.specs.Members.{words_in, held_loads}
use Rattle.source_lowering.specs.Programs.{RegionsAround, in_switch, locals_of, outward}
use Rattle.source_lowering.specs.Lowerable.{IsValueShape, AreUnions}
use Rattle.source_lowering.specs.Simulation.{at, Bound, nothing, Point, Shown, SameState, SameAt, Next, around}
use Rattle.source_lowering.proofs.memory.Keeping.{less_self, later_self, leads_later}
use Rattle.source_lowering.proofs.memory.Entering.{source_in, entered_later}
use Rattle.source_lowering.proofs.memory.Loading.{with_contents, other_contents}
use Rattle.source_lowering.proofs.Runs.{put_all, stuck_same}
use Rattle.source_lowering.proofs.values.Values.{put_temp, other_temp, kept_temp, temp_fits}
use Rattle.source_lowering.proofs.values.Tests.{two_words}
use Rattle.source_lowering.proofs.expressions.Making.{local_spot}
use Rattle.source_lowering.proofs.expressions.ValuePlaces.{contents_fits}
use Rattle.source_lowering.proofs.statements.Ways.{WaysOn, RunsAs, ways_later}
use Rattle.source_lowering.proofs.statements.Blocks.{at_start, block_from}
use Rattle.source_lowering.proofs.statements.Declaring.{with_local, local_with_same}
use Rattle.source_lowering.proofs.statements.UnionReads.{HoldsMember, MemberRead, member_read}

-- ---- ways on

-- how a clause is left, and what follows a `Leave`
abbrev pub switched : (Flow → source.Memory → steps.Step) → Flow → source.Memory → steps.Step
switched next flow = next (source_statements.after_switch flow)

abbrev pub left_after : Next → Next
left_after outer exit = meaning.left_by exit outer

-- a `break` within ends the `switch`, and leaves none of the regions around it
pub ways_switched : (w : World) (fs : Program) (n : ℕ) (h : RegionsAround) (b : Bound) (m : source.Memory) (c : Config) (result : Shape)
    (next : Flow → source.Memory → steps.Step) (outer : Next) → WaysOn w fs n h b m c result next (outer core_steps.Falls) outer
    → WaysOn w fs n (in_switch h) b m c result (switched next) (outer core_steps.Falls) (left_after outer)
ways_switched w fs n h b m c result next outer ways =
    record { falls = ways.falls; breaks = ways.falls; continues = ways.continues; returns = ways.returns }

-- ---- the block of a clause

live_entered : (m : source.Memory) (r : source.Region) → is_live m r ≡ true → is_live (source_in m) r ≡ true
live_entered m r live = by (same_region r (source.Frame m.activations)) live
  where
    by : (b : Bool) → is_live m r ≡ true → state_is_live (if b then source.Live else m.state r) ≡ true
    by true h = refl
    by false h = h

-- the member is copied to the first local, and the clause's statements follow
pub member_block : (p : Point) (n : ℕ) (result : Shape) (scope : Scope) (name tag : List ℕ) (number : ℕ) (v : Scalar) (t : Spot) (byte : ℕ) (shape : Shape)
    (shapes : List Shape) (then_act : Scope → Act Flow) (others : List Statement) (m : source.Memory) (c : Config) (next : Flow → source.Memory → steps.Step)
    (rest : Statements) (after : Next) → scope.world ≡ p.world → AreUnions p.world.unions → IsValueShape shape
    → slice_get (part_shapes (parts_of p.world.unions tag)) number ≡ Some shape → SameState p m c → HoldsMember p.world m c.memory tag number v t byte
    → c.temps p.regions.all ≡ Pointer (at t) byte
    → WaysOn p.world p.program n p.regions (around p (suc p.frame)) m c result next (meaning.statements rest after) after
    → ((k : ℕ) → RunsAs (with_local (at_start p.world p.program p.locals (outward p.names) k (p.frame ∷ p.outer) (shape ∷ shapes) p.own p.owned p.kept
    p.regions) name shape shapes) n k result (then_act (with_binding (record scope { frame = k }) name (Variable shape (local_spot k 0)))) others)
    → SameAt p n (in_block (λ k. local_with (record scope { frame = k }) name shape (v ∷ []) then_act) next m)
    (meaning.statements (put (Block (locals_of p.world (shape ∷ shapes))
    (all_of (held_loads shape p.regions.all ++ (put_local shape p.regions.all 0 0 ++ others))) ∷ []) rest) after c)
member_block p n result scope name tag number v t byte shape shapes then_act others m c next rest after world unions is_value is fits holds pointer ways runs =
    block_from p n result (shape ∷ shapes) (λ k. local_with (record scope { frame = k }) name shape (v ∷ []) then_act)
    (held_loads shape d ++ (put_local shape d 0 0 ++ others)) m c next rest after fits ways inside
  where
    d : ℕ
    d = p.regions.all

    start : Point
    start = at_start p.world p.program p.locals (outward p.names) m.activations (p.frame ∷ p.outer) (shape ∷ shapes) p.own p.owned p.kept p.regions

    m1 : source.Memory
    m1 = source_in m

    c1 : Config
    c1 = meaning.in_block (locals_of p.world (shape ∷ shapes)) c

    here : Scope
    here = record scope { frame = m.activations }

    held : HoldsMember p.world m1 c1.memory tag number v t byte
    held = record {
      known = holds.known;
      holds = holds.holds;
      live = live_entered m t.region holds.live;
      leads =
          leads_later nothing p.world m m1 c.memory c1.memory (UnionShape tag) t byte
          (entered_later nothing p.world m c.memory (locals_of p.world (shape ∷ shapes)) fits.agree) holds.leads;
    }

    inside : (then_next : Flow → source.Memory → steps.Step) (then_after : Next) → SameState start m1 c1
        → WaysOn p.world p.program n p.regions (around start m.activations) m1 c1 result then_next (then_after core_steps.Falls) then_after
        → SameAt p n (local_with here name shape (v ∷ []) then_act then_next m1)
        (meaning.statements (all_of (held_loads shape d ++ (put_local shape d 0 0 ++ others))) then_after c1)
    inside then_next then_after fits1 ways1 =
        let stores : Statements = put (put_local shape d 0 0) (all_of others) in
        let read : MemberRead p.world m1 c1 shape v d stores then_after =
        member_read p.world m1 c1 tag number v t byte d shape stores then_after unions fits1.agree held pointer is in
        let c2 : Config = with_contents d read.contents c1 in
        let code : put (held_loads shape d ++ (put_local shape d 0 0 ++ others)) NoStatements ≡ put (held_loads shape d) stores =
        put_all (held_loads shape d) (put_local shape d 0 0 ++ others) NoStatements ∙
        ap (put (held_loads shape d)) (put_all (put_local shape d 0 0) others NoStatements) in
        subst (λ z. SameAt p n (local_with here name shape (v ∷ []) then_act then_next m1) z)
        (sym (ap (λ z. meaning.statements z then_after c1) code ∙ read.done))
        (local_with_same start n (d + words_in shape) d here name shape shapes (v ∷ []) then_act then_next m1 c2 (all_of others) then_after world refl is_value
        (omega arith) refl (contents_fits start m1 c1 d read.contents fits1 (omega arith))
        (record {
          value = v;
          alone = refl;
          shown = subst (λ z. Shown p.world m1 c1.memory shape v z) (sym read.are) read.shown;
        })
        (record {
          above = omega arith;
          go = λ m3 c3 fits3 later3 temps3 active3.
              (runs m.activations).same m3 c3 then_next NoStatements then_after fits3
              (ways_later p.world p.program n p.regions (around start m.activations) (around start m.activations) m1 m3 c1 c3 result then_next
              (then_after core_steps.Falls) then_after (less_self (around start m.activations)) later3 active3
              (λ i small. temps3 i (omega (arith, small)) ∙ other_contents d i read.contents c1 small)
              (record { falls = ways1.falls; breaks = ways1.breaks; continues = ways1.continues; returns = ways1.returns }));
        }))

-- ---- clauses, one after the other

-- a clause that is there
abbrev pub chosen : Option (Act Flow) → Act Flow
chosen clause = need clause >>= λ act. act

-- what comes after an `If` that stands in front of others
abbrev after_test : Statements → Next → Next
after_test more after exit = meaning.falls_to exit (meaning.statements more after) after

-- the tag is compared with a member's number
abbrev pub test_code : ℕ → ℕ → Statements → List Statement
test_code d number these =
    Do (Constant (d + 2) number) ∷ Do (Apply Equal (d + 2) (d + 1) (d + 2)) ∷ If (d + 2) these NoStatements ∷ []

-- behind it
abbrev tested : ℕ → ℕ → Bool → Config → Config
tested d number b c = with_temp (d + 2) (Word (truth b)) (with_temp (d + 2) (Word number) c)

test_does : (c : Config) (d number tag : ℕ) (b : Bool) (these more : Statements) (after : Next) → number < 2 ^ 32 → c.temps (d + 1) ≡ Word tag
    → nat_eq tag number ≡ b
    → meaning.statements (put (test_code d number these) more) after c
    ≡ (if b then meaning.statements these (after_test more after) (tested d number b c) else meaning.statements more after (tested d number b c))
test_does c d number tag b these more after small temp is =
    ap (λ z. does (Apply Equal (d + 2) (d + 1) (d + 2)) tests (with_temp (d + 2) (Word z) c)) word ∙
    two_words Equal here (d + 2) (d + 1) (d + 2) tag number tests (other_temp (d + 2) (d + 1) (Word number) c (omega arith) ∙ temp)
    (put_temp (d + 2) (Word number) c) ∙
    ap (λ z. tests (with_temp (d + 2) (Word (truth z)) here)) is ∙ branched b
  where
    word : number % 2 ^ 32 ≡ number
    word = omega arith

    here : Config
    here = with_temp (d + 2) (Word number) c

    tests : Config → core_steps.Step
    tests now = meaning.branch (now.temps (d + 2)) (meaning.statements these (after_test more after) now) (meaning.statements more after now)

    branched : (b : Bool) → tests (tested d number b c)
        ≡ (if b then meaning.statements these (after_test more after) (tested d number b c) else meaning.statements more after (tested d number b c))
    branched true = rw (put_temp (d + 2) (Word 1) here) refl
    branched false = rw (put_temp (d + 2) (Word 0) here) refl

-- what a `switch` finds: the union that a pointer in the first free temporary leads to, its tag in the next one, and what it holds
pub record IsSwitched (p : Point) (m : source.Memory) (c : Config) (tag : List ℕ) (number : ℕ) (v : Scalar) (t : Spot) (byte : ℕ) : Type 0 where
  pub holds : HoldsMember p.world m c.memory tag number v t byte
  pub pointer : c.temps p.regions.all ≡ Pointer (at t) byte
  pub tagged : c.temps (p.regions.all + 1) ≡ Word number

-- what it holds, in the source
abbrev pub held_of : World → List ℕ → ℕ → Scalar → Held
held_of w tag number v = record { parts = parts_of w.unions tag; position = number; value = v }

-- Clauses do the same as their code, where what comes behind it does the same as what is done where none of them is taken.
pub record CasesAs (p : Point) (n : ℕ) (result : Shape) (tag : List ℕ) (found : ℕ → Scalar → Option (Act Flow)) (code : List Statement) : Type 0 where
  pub same : (other : Option (Act Flow)) (others : List Statement) → RunsAs p n (suc p.frame) result (chosen other) others
      → (m : source.Memory) (c : Config) (next : Flow → source.Memory → steps.Step) (outer : Next) (number : ℕ) (v : Scalar) (t : Spot) (byte : ℕ)
      → SameState p m c → IsSwitched p m c tag number v t byte
      → WaysOn p.world p.program n p.regions (around p (suc p.frame)) m c result (switched next) (outer core_steps.Falls) (left_after outer)
      → SameAt p n (chosen (or_else (found number v) other) (switched next) m)
      (meaning.statements (put code (all_of others)) (left_after outer) c)

pub no_cases : (p : Point) (n : ℕ) (result : Shape) (tag : List ℕ) → CasesAs p n result tag (λ number v. None) []
no_cases p n result tag = record {
  same = λ other others runs m c next outer number v t byte fits is ways.
      runs.same m c (switched next) NoStatements (left_after outer) fits
      (record { falls = ways.falls; breaks = ways.breaks; continues = ways.continues; returns = ways.returns });
}

-- behind a test
tested_is : (p : Point) (m : source.Memory) (c : Config) (tag : List ℕ) (j number : ℕ) (b : Bool) (v : Scalar) (t : Spot) (byte : ℕ)
    → IsSwitched p m c tag number v t byte → IsSwitched p m (tested p.regions.all j b c) tag number v t byte
tested_is p m c tag j number b v t byte is = record {
  holds = is.holds;
  pointer = kept (omega arith) ∙ is.pointer;
  tagged = kept (omega arith) ∙ is.tagged;
}
  where
    kept : {k : ℕ} → k < p.regions.all + 2 → (tested p.regions.all j b c).temps k ≡ c.temps k
    kept {k} less = other_temp (p.regions.all + 2) k (Word (truth b)) (with_temp (p.regions.all + 2) (Word j) c) less ∙
        other_temp (p.regions.all + 2) k (Word j) c less

tested_fits : (p : Point) (m : source.Memory) (c : Config) (j : ℕ) (b : Bool) → SameState p m c → SameState p m (tested p.regions.all j b c)
tested_fits p m c j b fits =
    temp_fits p m (with_temp (p.regions.all + 2) (Word j) c) (p.regions.all + 2) (Word (truth b))
    (temp_fits p m c (p.regions.all + 2) (Word j) fits (omega arith)) (omega arith)

tested_ways : (p : Point) (n : ℕ) (m : source.Memory) (c : Config) (j : ℕ) (b : Bool) (result : Shape) (next : Flow → source.Memory → steps.Step)
    (falls_on : Config → core_steps.Step) (after : Next) → WaysOn p.world p.program n p.regions (around p (suc p.frame)) m c result next falls_on after
    → WaysOn p.world p.program n p.regions (around p (suc p.frame)) m (tested p.regions.all j b c) result next falls_on after
tested_ways p n m c j b result next falls_on after ways =
    ways_later p.world p.program n p.regions (around p (suc p.frame)) (around p (suc p.frame)) m m c (tested p.regions.all j b c) result next falls_on after
    (less_self (around p (suc p.frame))) (later_self (around p (suc p.frame)) m c.memory) refl
    (kept_temp p.regions.all (p.regions.all + 2) (Word (truth b)) c (with_temp (p.regions.all + 2) (Word j) c) (omega arith)
    (kept_temp p.regions.all (p.regions.all + 2) (Word j) c c (omega arith) (λ k less. refl))) ways

-- a clause for a member of a number: its block is entered where the tag is that number, and whatever way that is left, the `switch` is left
pub case_more : (p : Point) (n : ℕ) (result : Shape) (scope : Scope) (name tag : List ℕ) (j : ℕ) (shape : Shape) (shapes : List Shape)
    (then_act : Scope → Act Flow) (found : ℕ → Scalar → Option (Act Flow)) (body others : List Statement) → scope.world ≡ p.world → AreUnions p.world.unions
    → IsValueShape shape → slice_get (part_shapes (parts_of p.world.unions tag)) j ≡ Some shape → j < 2 ^ 32
    → ((k : ℕ) → RunsAs (with_local (at_start p.world p.program p.locals (outward p.names) k (p.frame ∷ p.outer) (shape ∷ shapes) p.own p.owned p.kept
    p.regions) name shape shapes) n k result (then_act (with_binding (record scope { frame = k }) name (Variable shape (local_spot k 0)))) body)
    → CasesAs p n result tag found others
    → CasesAs p n result tag (λ number v. if nat_eq j number then
    Some (in_block (λ k. local_with (record scope { frame = k }) name shape (v ∷ []) then_act)) else found number v)
    (test_code p.regions.all j (all_of (Block (locals_of p.world (shape ∷ shapes))
    (all_of (held_loads shape p.regions.all ++ (put_local shape p.regions.all 0 0 ++ body))) ∷ Break ∷ [])) ++ others)
case_more p n result scope name tag j shape shapes then_act found body others world unions is_value known small runs more = record {
  same = λ other behind last m c next outer number v t byte fits is ways.
      by (nat_eq j number) other behind last m c next outer number v t byte refl fits is ways;
}
  where
    d : ℕ
    d = p.regions.all

    block : Statement
    block = Block (locals_of p.world (shape ∷ shapes)) (all_of (held_loads shape d ++ (put_local shape d 0 0 ++ body)))

    act : Scalar → Act Flow
    act v = in_block (λ k. local_with (record scope { frame = k }) name shape (v ∷ []) then_act)

    turned : (a b : ℕ) (r : Bool) → nat_eq a b ≡ r → nat_eq b a ≡ r
    turned a b true e = eq-eqb b a (sym (eqb-true a b e))
    turned a b false e = grind (arith, nat_tests, e)

    by : (b : Bool) (other : Option (Act Flow)) (behind : List Statement) → RunsAs p n (suc p.frame) result (chosen other) behind
        → (m : source.Memory) (c : Config) (next : Flow → source.Memory → steps.Step) (outer : Next) (number : ℕ) (v : Scalar) (t : Spot) (byte : ℕ)
        → nat_eq j number ≡ b → SameState p m c → IsSwitched p m c tag number v t byte
        → WaysOn p.world p.program n p.regions (around p (suc p.frame)) m c result (switched next) (outer core_steps.Falls) (left_after outer)
        → SameAt p n (chosen (or_else (if b then Some (act v) else found number v) other) (switched next) m)
        (meaning.statements (put (test_code d j (all_of (block ∷ Break ∷ []))) (put others (all_of behind))) (left_after outer) c)
    by true other behind last m c next outer number v t byte e fits is ways =
        let now : Config = tested d j true c in
        let after : Next = after_test (put others (all_of behind)) (left_after outer) in
        let there = tested_is p m c tag j number true v t byte is in
        let still = tested_ways p n m c j true result (switched next) (outer core_steps.Falls) (left_after outer) ways in
        subst (λ z. SameAt p n (act v (switched next) m) z)
        (sym (test_does c d j number true (all_of (block ∷ Break ∷ [])) (put others (all_of behind)) (left_after outer) small is.tagged
        (turned j number true e)))
        (member_block p n result scope name tag number v t byte shape shapes then_act body m now (switched next) (MoreStatements Break NoStatements) after
        world unions is_value (subst (λ z. slice_get (part_shapes (parts_of p.world.unions tag)) z ≡ Some shape) (eqb-true j number e) known)
        (tested_fits p m c j true fits) there.holds there.pointer
        (record { falls = still.falls; breaks = still.breaks; continues = still.continues; returns = still.returns }) runs)
    by false other behind last m c next outer number v t byte e fits is ways =
        let now : Config = tested d j false c in
        subst (λ z. SameAt p n (chosen (or_else (found number v) other) (switched next) m) z)
        (sym (test_does c d j number false (all_of (block ∷ Break ∷ [])) (put others (all_of behind)) (left_after outer) small is.tagged
        (turned j number false e)))
        (more.same other behind last m now next outer number v t byte (tested_fits p m c j false fits) (tested_is p m c tag j number false v t byte is)
        (tested_ways p n m c j false result (switched next) (outer core_steps.Falls) (left_after outer) ways))

-- where no clause is there, the source is stuck
pub none_chosen : (p : Point) (n b : ℕ) (result : Shape) → RunsAs p n b result (chosen None) []
none_chosen p n b result = record { same = λ m c next rest after fits ways. stuck_same p.world p.program n _ }
