use Rattle.std.proofs.Common.{◌≡◌, ◌<◌, ℕ, [], length, ◌+◌, Bool, false, nat_eq, List, arith, rules, Option, sym, ap, subst, ◌∙◌}
use Rattle.std.proofs.lemmas.List.{length-map, length-reverse}
use Rattle.std.specs.Prelude.{if◌then◌else◌}
use Rattle.stack_needs.specs.Graph.{Found, AreNumbers, found, looked_at, rows_of}
use Rattle.stack_needs.proofs.Looking.{all_within, answered, begun, looked_turned, one_more_round, round_is_smaller, waits}
use Rattle.stack_needs.proofs.rounds.needs_of.Goals as goal

pub loop-is_last-init : goal.loop-is_last-init
loop-is_last-init c =
    begun c.args.frames.now (rows_of c.args.calls.now) (length c.args.calls.now) c.in_ok-needs.needs.items c.in_ok-waiting.waiting.items
    (length-map c.args.calls.now (λ r. r.items)) (c.in_ok-needs.ensures.items_if_clones_equal (λ y e. search rules)) c.in_ok-waiting.ensures

pub look_at-requires : goal.look_at-requires
look_at-requires c =
    let so = c.loop-is_last.invariant.found_so in
    let long = length-map c.args.calls.now (λ r. r.items) in
    record {
      framed = omega (arith, so.long, long, c.requires.framed);
      listed = omega (arith, so.long, long);
      within = all_within (length (rows_of c.args.calls.now)) _ c.loop-is_last.waiting.items c.as_slice.result.now c.as_slice.ensures.value so.long so.within;
    }

-- what a round came to, with the slice that it went over
after_round : (frames : List ℕ) (calls : List (List ℕ)) (needs : List (Option ℕ)) (waiting ys : List ℕ) (r : Found) → ys ≡ waiting
    → r ≡ looked_at frames calls (found needs []) ys → r ≡ looked_at frames calls (found needs []) waiting
after_round frames calls needs waiting ys r same is = is ∙ ap (λ zs. looked_at frames calls (found needs []) zs) same

-- whether a round is the last, by the lengths of vectors
same_test : (a b n m : ℕ) → a ≡ n → b ≡ m → nat_eq a b ≡ nat_eq n m
same_test a b n m one two = ap (λ k. nat_eq k b) one ∙ ap (λ k. nat_eq n k) two

-- the measure, before a round that isn't the last
is_smaller : (n m : ℕ) (now then_now before : Bool) → now ≡ then_now → before ≡ false → n + (if then_now then 0 else 1) < m + 1
    → n + (if now then 0 else 1) < m + (if before then 0 else 1)
is_smaller n m now then_now before same was less =
    subst (λ (b : Bool). n + (if now then 0 else 1) < m + (if b then 0 else 1)) (sym was)
    (subst (λ (b : Bool). n + (if b then 0 else 1) < m + 1) (sym same) less)

pub loop-is_last-smaller : goal.loop-is_last-smaller
loop-is_last-smaller c =
    let left = c.in_ok-left.left in
    let waiting = c.loop-is_last.waiting in
    let long : length c.turned-waiting.result.items ≡ length left.items = ap (λ (ks : List ℕ). length ks) c.turned-waiting.ensures
    ∙ length-reverse left.items in
    subst (λ (n : ℕ). n + (if nat_eq c.len.result c.len-in-loop-is_last.result then 0 else 1) < length waiting.items
    + (if c.loop-is_last.is_last then 0 else 1))
    (sym long)
    (is_smaller (length left.items) (length waiting.items) _ (nat_eq (length left.items) (length waiting.items)) c.loop-is_last.is_last
    (same_test c.len.result c.len-in-loop-is_last.result (length left.items) (length waiting.items)
    (omega (arith, c.len.ensures, left.ok.0)) (omega (arith, c.len-in-loop-is_last.ensures, waiting.ok.0)))
    c.loop-is_last-test.true
    (round_is_smaller c.args.frames.now (rows_of c.args.calls.now) c.loop-is_last.needs.items waiting.items
    (found c.look_at.new.needs.items left.items)
    (after_round c.args.frames.now (rows_of c.args.calls.now) c.loop-is_last.needs.items waiting.items c.as_slice.result.now
    (found c.look_at.new.needs.items left.items) c.as_slice.ensures.value c.in_ok-left.ensures)))

pub loop-is_last-preserved : goal.loop-is_last-preserved
loop-is_last-preserved c =
    let left = c.in_ok-left.left in
    let waiting = c.loop-is_last.waiting in
    looked_turned c.args.frames.now (rows_of c.args.calls.now) _ c.look_at.new.needs.items left.items c.turned-waiting.result.items c.turned-waiting.ensures
    (one_more_round c.args.frames.now (rows_of c.args.calls.now) c.loop-is_last.needs.items waiting.items c.loop-is_last.invariant.found_so
    (found c.look_at.new.needs.items left.items)
    (after_round c.args.frames.now (rows_of c.args.calls.now) c.loop-is_last.needs.items waiting.items c.as_slice.result.now
    (found c.look_at.new.needs.items left.items) c.as_slice.ensures.value c.in_ok-left.ensures)
    _
    (same_test c.len.result c.len-in-loop-is_last.result (length left.items) (length waiting.items)
    (omega (arith, c.len.ensures, left.ok.0)) (omega (arith, c.len-in-loop-is_last.ensures, waiting.ok.0))))

pub returns : goal.returns
returns c =
    let looked = c.loop-is_last.invariant in
    let long = length-map c.args.calls.now (λ r. r.items) in
    let calls = rows_of c.args.calls.now in
    let last = found c.loop-is_last.needs.items c.loop-is_last.waiting.items in
    record {
      right = λ k low.
          answered c.args.frames.now calls (length calls)
          (subst (λ (n : ℕ). AreNumbers n calls) (sym long) c.requires.numbered) last looked.found_so (looked.stuck c.loop-is_last-test.false) k (omega arith);
      waiting = λ k low unknown.
          waits c.args.frames.now calls (length calls) last looked.found_so (looked.stuck c.loop-is_last-test.false) k (omega arith) unknown;
    }
