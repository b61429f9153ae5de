use Rattle.std.proofs.Common.{Err, ap, sym, subst, refl, ◌∙◌, arith}
use Rattle.arena_laws.specs.declared.refusal.StoreRefusal.TheVariants.{NotABlock}
use Rattle.arena_laws.specs.Lawful.{is_alone, unique_free}
use Rattle.arena_laws.specs.Laws.{Does}
use Rattle.unique_blocks.specs.Blocks.{Slotted, held}
use Rattle.region_runtime.specs.Pool.{page_at}
use Rattle.unique_blocks.proofs.Steps.{class_taken}
use Rattle.unique_blocks.proofs.Freed.{below_none, inside_none, no_block, none_freed, slot_low, uncut_none, vacant_none}
use Rattle.unique_blocks.proofs.blocks.UniqueBlocks.unique_free.Goals as goal

pub returns-then-at-lt-BASE-clause-does : goal.returns-then-at-lt-BASE-clause-does
returns-then-at-lt-BASE-clause-does c =
    let u : Slotted = record { pool = c.self.inside.pool; heads = c.self.inside.heads; touched = 0 } in let at = c.args.at in
    subst (λ w. Does (Err NotABlock) (held u) (unique_free at (held w))) c.self.view_is
    (none_freed at ((held u).owner at) (held u) (held u) (no_block u.pool at (ap (is_alone at) (below_none u.pool at c.if-at-lt-BASE.true))) refl)

pub returns-then-class-eq0-clause-does : goal.returns-then-class-eq0-clause-does
returns-then-class-eq0-clause-does c =
    let u : Slotted = record { pool = c.self.inside.pool; heads = c.self.inside.heads; touched = 0 } in let at = c.args.at in
    let none = uncut_none u.pool at c.if-at-lt-BASE.false (sym c.read-class.ensures.value ∙ c.if-class-eq0.true) in
    subst (λ w. Does (Err NotABlock) (held u) (unique_free at (held w))) c.self.view_is
    (none_freed at ((held u).owner at) (held u) (held u) (no_block u.pool at (ap (is_alone at) none)) refl)

pub returns-then-at-class-ne0-clause-does : goal.returns-then-at-class-ne0-clause-does
returns-then-at-class-ne0-clause-does c =
    let u : Slotted = record { pool = c.self.inside.pool; heads = c.self.inside.heads; touched = 0 } in let at = c.args.at in
    let inside = inside_none u.pool at c.if-at-lt-BASE.false c.read-class.result (sym c.read-class.ensures.value) (let n = c.if-class-eq0.false in
    omega (arith, n)) c.if-at-class-ne0.true in
    subst (λ w. Does (Err NotABlock) (held u) (unique_free at (held w))) c.self.view_is
    (none_freed at ((held u).owner at) (held u) (held u) (no_block u.pool at inside) refl)

pub finds-requires-clause-slot : goal.finds-requires-clause-slot
finds-requires-clause-slot c =
    (slot_low c.self.inside.pool c.self.inside.heads c.args.at c.read-class.result c.self.invariant (sym c.read-class.ensures.value)
    (let n = c.if-class-eq0.false in omega (arith, n))).few

pub returns-then-not-finds-clause-does : goal.returns-then-not-finds-clause-does
returns-then-not-finds-clause-does c =
    let u : Slotted = record { pool = c.self.inside.pool; heads = c.self.inside.heads; touched = 0 } in let at = c.args.at in
    let none = vacant_none u.pool at c.if-at-lt-BASE.false c.read-class.result (sym c.read-class.ensures.value) (let n = c.if-class-eq0.false in
    omega (arith, n)) (sym c.finds.ensures.value ∙ c.if-not-finds.true) in
    subst (λ w. Does (Err NotABlock) (held u) (unique_free at (held w))) c.self.view_is
    (none_freed at ((held u).owner at) (held u) (held u) (no_block u.pool at (ap (is_alone at) none)) refl)

pub returns-clause-touches : goal.returns-clause-touches
returns-clause-touches c =
    let e = c.read-class.ensures.value in let n = c.if-class-eq0.false in
    let t = class_taken c.self.inside.pool (page_at c.args.at) (omega (arith, e, n)) in
    let a = c.read-class.ensures.taken t in let b = c.finds.ensures.taken t in let l = c.give.ensures.least in let m = c.give.ensures.most in
    record { least = omega (arith, a, b, l); most = omega (arith, a, b, m) }
