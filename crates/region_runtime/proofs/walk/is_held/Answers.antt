use Rattle.std.proofs.Common.{◌∙◌, arith, ap, sym, subst, ◌-◌, ◌<◌, ◌≡◌, true, false}
use Rattle.std.specs.Prelude.{nat_lt}
use Rattle.region_runtime.specs.Chains.{follow, times}
use Rattle.region_runtime.specs.Headers.{link_of, owner_of, word_in, is_live_number, newest_of, count_of, pages_of}
use Rattle.region_runtime.proofs.Words.{word_read, live_some, live_page}
use Rattle.region_runtime.proofs.Ordered.{pages_are}
use Rattle.region_runtime.proofs.Walked.{held_heap, held_taken, held_by}
use Rattle.region_runtime.proofs.walk.is_held.Goals as goal

pub returns-then-owner-eq-HEAP : goal.returns-then-owner-eq-HEAP
returns-then-owner-eq-HEAP c =
    held_heap (word_in c.args.raw.now.words) c.args.page _ (c.word-owner.ensures ∙ word_read _ c.args.page 1 c.requires.page (omega arith))
    c.if-owner-eq-HEAP.true

pub returns-then-owner-eq-TAKEN : goal.returns-then-owner-eq-TAKEN
returns-then-owner-eq-TAKEN c =
    held_taken (word_in c.args.raw.now.words) c.args.page _ (c.word-owner.ensures ∙ word_read _ c.args.page 1 c.requires.page (omega arith))
    c.if-owner-eq-TAKEN.true

pub returns-then-not-is_region : goal.returns-then-not-is_region
returns-then-not-is_region c =
    sym (held_by (word_in c.args.raw.now.words) c.args.page _ (c.word-owner.ensures ∙ word_read _ c.args.page 1 c.requires.page (omega arith))
    c.if-owner-eq-HEAP.false c.if-owner-eq-TAKEN.false false (let e = c.if-not-is_region.true in let f = c.is_region.ensures in cc))

pub overflow_sub-owner : goal.overflow_sub-owner
overflow_sub-owner c =
    let e : is_live_number (owner_of (word_in c.args.raw.now.words)) c.word-owner.result ≡ true = (let e = c.if-not-is_region.false in let f =
    c.is_region.ensures in cc) in let l = live_some _ c.word-owner.result e in omega (arith, l)

pub word-newest-requires-clause-page : goal.word-newest-requires-clause-page
word-newest-requires-clause-page c =
    let e : is_live_number (owner_of (word_in c.args.raw.now.words)) c.word-owner.result ≡ true = (let e = c.if-not-is_region.false in let f =
    c.is_region.ensures in cc) in live_page _ c.word-owner.result e

pub overflow_sub-owner-2 : goal.overflow_sub-owner-2
overflow_sub-owner-2 c =
    let e : is_live_number (owner_of (word_in c.args.raw.now.words)) c.word-owner.result ≡ true = (let e = c.if-not-is_region.false in let f =
    c.is_region.ensures in cc) in let l = live_some _ c.word-owner.result e in omega (arith, l)

pub word-many-requires-clause-page : goal.word-many-requires-clause-page
word-many-requires-clause-page c =
    let e : is_live_number (owner_of (word_in c.args.raw.now.words)) c.word-owner.result ≡ true = (let e = c.if-not-is_region.false in let f =
    c.is_region.ensures in cc) in live_page _ c.word-owner.result e

pub leads_to-requires : goal.leads_to-requires
leads_to-requires c =
    let word = word_in c.args.raw.now.words in
    let h = c.word-owner.result in
    let e : is_live_number (owner_of word) h ≡ true = (let e = c.if-not-is_region.false in let f = c.is_region.ensures in cc) in
    let n : c.word-newest.result ≡ newest_of word h = c.word-newest.ensures ∙ word_read _ (h - 1) 3 (live_page _ h e) (omega arith) in
    let m : c.word-many.result ≡ count_of word h = c.word-many.ensures ∙ word_read _ (h - 1) 4 (live_page _ h e) (omega arith) in
    let same : follow (link_of word) c.word-many.result c.word-newest.result ≡ pages_of word h =
    ap (λ k. follow (link_of word) k c.word-newest.result) m ∙ ap (λ k. follow (link_of word) (count_of word h) k) n ∙ sym (pages_are word h) in
    λ q l. c.requires.within h q e (subst (λ xs. 0 < times q xs) same l)

pub returns : goal.returns
returns c =
    let word = word_in c.args.raw.now.words in
    let h = c.word-owner.result in
    let e : is_live_number (owner_of word) h ≡ true = (let e = c.if-not-is_region.false in let f = c.is_region.ensures in cc) in
    let n : c.word-newest.result ≡ newest_of word h = c.word-newest.ensures ∙ word_read _ (h - 1) 3 (live_page _ h e) (omega arith) in
    let m : c.word-many.result ≡ count_of word h = c.word-many.ensures ∙ word_read _ (h - 1) 4 (live_page _ h e) (omega arith) in
    let same : follow (link_of word) c.word-many.result c.word-newest.result ≡ pages_of word h =
    ap (λ k. follow (link_of word) k c.word-newest.result) m ∙ ap (λ k. follow (link_of word) (count_of word h) k) n ∙ sym (pages_are word h) in
    c.leads_to.ensures ∙ ap (λ xs. nat_lt 0 (times c.args.page xs)) same
    ∙ sym (held_by word c.args.page h (c.word-owner.ensures ∙ word_read _ c.args.page 1 c.requires.page (omega arith))
    c.if-owner-eq-HEAP.false c.if-owner-eq-TAKEN.false true (sym e))
