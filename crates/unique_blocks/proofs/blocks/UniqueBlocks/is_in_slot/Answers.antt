use Rattle.std.proofs.Common.{◌≡◌, false, ap, sym, subst, ◌∙◌, arith}
use Rattle.arena_laws.specs.Holdings.{is_some}
use Rattle.unique_blocks.specs.Blocks.{slots_in}
use Rattle.unique_blocks.specs.Slots.{alone_at}
use Rattle.unique_blocks.proofs.Freed.{below_none, in_slot_live, slot_low, uncut_none}
use Rattle.unique_blocks.proofs.blocks.UniqueBlocks.is_in_slot.Goals as goal

pub returns-then-at-lt-BASE : goal.returns-then-at-lt-BASE
returns-then-at-lt-BASE c = sym (ap is_some (below_none c.args.self.now.pool c.args.at c.if-at-lt-BASE.true))

pub returns-then-class-eq0 : goal.returns-then-class-eq0
returns-then-class-eq0 c =
    subst (λ u. false ≡ is_some (alone_at (slots_in u) c.args.at)) c.self.view_is
    (sym (ap is_some (uncut_none c.self.inside.pool c.args.at c.if-at-lt-BASE.false (sym c.word-class.ensures ∙ c.if-class-eq0.true))))

pub returns : goal.returns
returns c =
    subst (λ u. c.is_set.result ≡ is_some (alone_at (slots_in u) c.args.at)) c.self.view_is
    (in_slot_live c.self.inside.pool c.args.at c.if-at-lt-BASE.false c.word-class.result (sym c.word-class.ensures) (let n = c.if-class-eq0.false in
    omega (arith, n)) c.is_set.result c.is_set.ensures)

pub is_set-requires : goal.is_set-requires
is_set-requires c =
    (slot_low c.self.inside.pool c.self.inside.heads c.args.at c.word-class.result c.self.invariant (sym c.word-class.ensures)
    (let n = c.if-class-eq0.false in omega (arith, n))).few
