use Rattle.std.proofs.Common.{◌<◌, ◌+◌, ap, sym, subst, ◌∙◌, arith}
use Rattle.std.specs.Prelude.{slice_index, slice_set}
use Rattle.region_runtime.specs.Pool as pool
use Rattle.region_runtime.specs.Touches.{reads_link}
use Rattle.unique_blocks.specs.Blocks.{IsSound, held}
use Rattle.unique_blocks.specs.Calls.{IsOpened, IsUnopened}
use Rattle.unique_blocks.specs.Slots.{place_of}
use Rattle.unique_blocks.proofs.Touching.{link_most}
use Rattle.unique_blocks.proofs.Told.{open_says, unopened_says, got_small}
use Rattle.unique_blocks.proofs.blocks.UniqueBlocks.open.Goals as goal

pub returns-in-None-clause-unopened : goal.returns-in-None-clause-unopened
returns-in-None-clause-unopened c = λ e.
    let old = c.self.inside.pool in let heads = c.self.inside.heads in let k = c.args.class in
    let low = subst (λ i. i < 8) c.requires.place c.requires.few in
    let empty = ap (slice_index heads) (sym c.requires.place) ∙ ap (λ u. slice_index u.heads c.args.place) c.self.view_is ∙ c.requires.empty in
    let t = c.in-None.ensures in let m = c.self.inside.touched in let n = c.self.inside.touched + c.touched.result in
    subst (λ u. IsUnopened u (record { pool = c.take_page.new.self; heads = heads; touched = n }) k) c.self.view_is
    (unopened_says old heads k c.self.invariant c.requires.class low empty m n c.take_page.new.self t.gets t.full t.tags t.bytes t.fresh)

pub overflow_add-head : goal.overflow_add-head
overflow_add-head c =
    let heads = c.self.inside.heads in
    let low = subst (λ i. i < 8) c.requires.place c.requires.few in
    let empty = ap (slice_index heads) (sym c.requires.place) ∙ ap (λ u. slice_index u.heads c.args.place) c.self.view_is ∙ c.requires.empty in
    let l = got_small c.self.inside.pool heads c.args.class c.self.invariant c.requires.class low empty c.take_page.new.self c.in-Some.page
    c.in-Some.ensures.gets in omega (arith, l)

pub returns-in-Some-clause-opened : goal.returns-in-Some-clause-opened
returns-in-Some-clause-opened c = λ e.
    let old = c.self.inside.pool in let heads = c.self.inside.heads in let k = c.args.class in
    let low = subst (λ i. i < 8) c.requires.place c.requires.few in
    let empty = ap (slice_index heads) (sym c.requires.place) ∙ ap (λ u. slice_index u.heads c.args.place) c.self.view_is ∙ c.requires.empty in
    let t = c.in-Some.ensures in let m = c.self.inside.touched in let n = c.cut.new.touched in
    subst (λ i. IsOpened c.args.self.now (record { pool = c.cut.new.pool; heads = slice_set heads i (c.in-Some.page + 1); touched = n }) k)
    (sym c.requires.place)
    (subst (λ u. IsOpened u (record { pool = c.cut.new.pool; heads = slice_set heads (place_of k) (c.in-Some.page + 1); touched = n }) k) c.self.view_is
    (open_says old heads k c.self.invariant c.requires.class low empty m n c.take_page.new.self c.cut.new.pool c.in-Some.page t.gets c.cut.ensures.kept
    c.cut.ensures.slots t.full t.tags t.bytes t.fresh).told)

pub invariant_of-self-in-Some : goal.invariant_of-self-in-Some
invariant_of-self-in-Some c =
    let old = c.self.inside.pool in let heads = c.self.inside.heads in let k = c.args.class in
    let low = subst (λ i. i < 8) c.requires.place c.requires.few in
    let empty = ap (slice_index heads) (sym c.requires.place) ∙ ap (λ u. slice_index u.heads c.args.place) c.self.view_is ∙ c.requires.empty in
    let t = c.in-Some.ensures in let m = c.self.inside.touched in let n = c.cut.new.touched in
    subst (λ i. IsSound (record { pool = c.cut.new.pool; heads = slice_set heads i (c.in-Some.page + 1); touched = 0 })) (sym c.requires.place)
    (open_says old heads k c.self.invariant c.requires.class low empty m n c.take_page.new.self c.cut.new.pool c.in-Some.page t.gets c.cut.ensures.kept
    c.cut.ensures.slots t.full t.tags t.bytes t.fresh).whole

pub overflow_add-self-in-Some : goal.overflow_add-self-in-Some
overflow_add-self-in-Some c =
    let p = c.self.inside.pool in let l = link_most (pool.held p) in let t = c.in-Some.ensures.touches in
    let v = ap (λ u. u.touched) c.self.view_is in let r = c.touched-in-Some.ensures in omega (arith, l, t, v, r)

pub cut-requires-clause-few : goal.cut-requires-clause-few
cut-requires-clause-few c =
    let p = c.self.inside.pool in let l = link_most (pool.held p) in let t = c.in-Some.ensures.touches in
    let v = ap (λ u. u.touched) c.self.view_is in let r = c.touched-in-Some.ensures in omega (arith, l, t, v, r)

pub returns-in-Some-clause-touches : goal.returns-in-Some-clause-touches
returns-in-Some-clause-touches c =
    let t = c.in-Some.ensures.touches in let v = ap (λ u. u.touched) c.self.view_is in let r = c.touched-in-Some.ensures in
    let l = ap (λ u. reads_link (held u)) c.self.view_is in let k = c.cut.ensures.counts in omega (arith, t, v, r, l, k)

pub returns-in-None-clause-touches : goal.returns-in-None-clause-touches
returns-in-None-clause-touches c =
    let t = c.in-None.ensures.touches in let v = ap (λ u. u.touched) c.self.view_is in let r = c.touched.ensures in omega (arith, t, v, r)
