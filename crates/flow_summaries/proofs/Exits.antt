-- What comes of exits that are put together.
use Rattle.std.specs.Prelude.{length, option_map, ◌+◌, ◌++◌}
use Rattle.std.proofs.Common.{◌≡◌, ℕ, Option, Some, None, [], refl, sym, ap, ap₂, ◌∙◌}
use Rattle.source_typing.specs.Faults.{earliest}
use Rattle.source_typing.specs.Left.{Left, after_passed, back_of, dropped, either, falls_in, followed, in_sequence, left, loop, no_ways, on_ways, switched_left}
use Rattle.source_typing.specs.Left.{turn_of}
use Rattle.source_typing.specs.States.{Passed, States, loop_head, meet_ways}
use Rattle.check_faults.proofs.Earliest.{earliest_of_both, found_sooner}
use Rattle.check_faults.specs.Faults.{faults_of, first_of}
use Rattle.flow_summaries.proofs.Effects.{dropped_way, head_is, none_after, way_then, ways_met}
use Rattle.flow_summaries.proofs.Passages.{found_after, found_always, found_begun, found_both, found_then}
use Rattle.flow_summaries.specs.Effects.{Effects, Keeps, met_ways, states_after, then_way, to_head}
use Rattle.flow_summaries.specs.Exits.{Exits, either_exits, ends, ends_after, entered, exits, exits_in_sequence, followed_by, left_from_head}
use Rattle.flow_summaries.specs.Exits.{loop_exits, no_exits, switch_left, with_passage}
use Rattle.flow_summaries.specs.Laws.{DoesAs, LeavesAs, way_after}
use Rattle.flow_summaries.specs.Passages.{Passage, faults_always, found_in}

-- ---- ends

none_found : (n : ℕ) (s : States) → earliest [] ≡ faults_of (found_in n (faults_always None) s)
none_found n s = ap faults_of (sym (found_always n None s))

at_once : (n : ℕ) (s : States) → Some s ≡ way_after n (Some (λ i. Keeps)) s
at_once n s = ap Some (sym (none_after n s))

pub leaves_at_end : (n : ℕ) → LeavesAs n (λ s. left (Some s) None None []) ends
leaves_at_end n = record { falls = at_once n; breaks = λ s. refl; continues = λ s. refl; faults = none_found n }

pub leaves_by_break : (n : ℕ) → LeavesAs n (λ s. left None (Some s) None []) (exits None (Some (λ i. Keeps)) None (faults_always None))
leaves_by_break n = record { falls = λ s. refl; breaks = at_once n; continues = λ s. refl; faults = none_found n }

pub leaves_by_continue : (n : ℕ) → LeavesAs n (λ s. left None None (Some s) []) (exits None None (Some (λ i. Keeps)) (faults_always None))
leaves_by_continue n = record { falls = λ s. refl; breaks = λ s. refl; continues = at_once n; faults = none_found n }

pub leaves_nowhere : (n : ℕ) → LeavesAs n (λ s. no_ways) no_exits
leaves_nowhere n = record { falls = λ s. refl; breaks = λ s. refl; continues = λ s. refl; faults = none_found n }

pub leaves_by_return : (n : ℕ) (act : States → Passed) (p : Passage) → DoesAs n act p
    → LeavesAs n (λ s. left None None None (act s).faults) (exits None None None p.faults)
leaves_by_return n act p h = record { falls = λ s. refl; breaks = λ s. refl; continues = λ s. refl; faults = h.faults }

pub leaves_after : (n : ℕ) (act : States → Passed) (p : Passage) → DoesAs n act p → LeavesAs n (λ s. falls_in (act s)) (ends_after p)
leaves_after n act p h = record { falls = λ s. ap Some (h.states s); breaks = λ s. refl; continues = λ s. refl; faults = h.faults }

pub leaves_switch : (n : ℕ) (rest : States → Left) (w : Exits) → LeavesAs n rest w → LeavesAs n (λ s. switched_left (rest s)) (switch_left w)
leaves_switch n rest w h = record { falls = h.breaks; breaks = λ s. refl; continues = h.continues; faults = h.faults }

-- ---- an expression, and then the rest

module _ (n : ℕ) (act : States → Passed) (rest : States → Left) (p : Passage) (w : Exits) (h : DoesAs n act p) (k : LeavesAs n rest w) where
  pub leaves_with_passage : LeavesAs n (λ s. after_passed (act s) rest) (with_passage p w)
  leaves_with_passage = record {
    falls = λ s. ap (λ t. (rest t).falls) (h.states s) ∙ k.falls (states_after n p.effects s) ∙ way_then n p.effects w.falls s;
    breaks = λ s. ap (λ t. (rest t).breaks) (h.states s) ∙ k.breaks (states_after n p.effects s) ∙ way_then n p.effects w.breaks s;
    continues = λ s. ap (λ t. (rest t).continues) (h.states s) ∙ k.continues (states_after n p.effects s) ∙ way_then n p.effects w.continues s;
    faults = λ s.
        earliest_of_both (act s).faults (rest (act s).states).faults
        ∙ ap₂ first_of (h.faults s) (ap (λ t. earliest (rest t).faults) (h.states s) ∙ k.faults (states_after n p.effects s))
        ∙ sym (found_then n p.effects p.faults w.faults s);
  }

-- ---- two statements

module _ (n : ℕ) (first rest : States → Left) (v w : Exits) (h : LeavesAs n first v) (k : LeavesAs n rest w) where
  meets : (s : States) (a b : Option States) (x y : Option Effects) → a ≡ way_after n x s → b ≡ way_after n y s → meet_ways a b ≡ way_after n (met_ways x y) s
  meets s a b x y p q = ap₂ meet_ways p q ∙ ways_met n x y s

  falls_then : (s : States) (o : Option Effects)
      → (followed (way_after n o s) (first s) rest).falls ≡ way_after n (followed_by o v w).falls s
  falls_then s None = h.falls s
  falls_then s (Some d) = k.falls (states_after n d s) ∙ way_then n d w.falls s

  breaks_then : (s : States) (o : Option Effects)
      → (followed (way_after n o s) (first s) rest).breaks ≡ way_after n (followed_by o v w).breaks s
  breaks_then s None = h.breaks s
  breaks_then s (Some d) =
      meets s (first s).breaks (rest (states_after n d s)).breaks v.breaks (then_way d w.breaks) (h.breaks s)
      (k.breaks (states_after n d s) ∙ way_then n d w.breaks s)

  continues_then : (s : States) (o : Option Effects)
      → (followed (way_after n o s) (first s) rest).continues ≡ way_after n (followed_by o v w).continues s
  continues_then s None = h.continues s
  continues_then s (Some d) =
      meets s (first s).continues (rest (states_after n d s)).continues v.continues (then_way d w.continues) (h.continues s)
      (k.continues (states_after n d s) ∙ way_then n d w.continues s)

  faults_then : (s : States) (o : Option Effects)
      → earliest (followed (way_after n o s) (first s) rest).faults ≡ faults_of (found_in n (followed_by o v w).faults s)
  faults_then s None = h.faults s
  faults_then s (Some d) =
      earliest_of_both (first s).faults (rest (states_after n d s)).faults
      ∙ ap₂ first_of (h.faults s) (k.faults (states_after n d s))
      ∙ sym (found_then n d v.faults w.faults s)

  pub leaves_in_sequence : LeavesAs n (λ s. in_sequence (first s) rest) (exits_in_sequence v w)
  leaves_in_sequence = record {
    falls = λ s. ap (λ o. (followed o (first s) rest).falls) (h.falls s) ∙ falls_then s v.falls;
    breaks = λ s. ap (λ o. (followed o (first s) rest).breaks) (h.falls s) ∙ breaks_then s v.falls;
    continues = λ s. ap (λ o. (followed o (first s) rest).continues) (h.falls s) ∙ continues_then s v.falls;
    faults = λ s. ap (λ o. earliest (followed o (first s) rest).faults) (h.falls s) ∙ faults_then s v.falls;
  }

  pub leaves_either : LeavesAs n (λ s. either (first s) (rest s)) (either_exits v w)
  leaves_either = record {
    falls = λ s. meets s (first s).falls (rest s).falls v.falls w.falls (h.falls s) (k.falls s);
    breaks = λ s. meets s (first s).breaks (rest s).breaks v.breaks w.breaks (h.breaks s) (k.breaks s);
    continues = λ s. meets s (first s).continues (rest s).continues v.continues w.continues (h.continues s) (k.continues s);
    faults = λ s.
        earliest_of_both (first s).faults (rest s).faults
        ∙ ap₂ first_of (h.faults s) (k.faults s)
        ∙ sym (ap faults_of (found_both n v.faults w.faults s) ∙ found_sooner (found_in n v.faults s) (found_in n w.faults s));
  }

-- ---- loops

module _ (n : ℕ) (condition : States → Passed) (body : States → Left) (p : Passage) (w : Exits) (h : DoesAs n condition p) (k : LeavesAs n body w) where
  abbrev turn : States → Left
  turn s = turn_of condition body s

  abbrev turned : Exits
  turned = with_passage p w

  turn_leaves : LeavesAs n turn turned
  turn_leaves = leaves_with_passage n condition body p w h k

  abbrev head_effects : Effects
  head_effects = to_head (met_ways turned.falls turned.continues)

  head : (s : States) → loop_head s (λ t. back_of (turn t)) ≡ states_after n head_effects s
  head =
      head_is n (λ t. back_of (turn t)) (met_ways turned.falls turned.continues)
      (λ t. ap₂ meet_ways (turn_leaves.falls t) (turn_leaves.continues t) ∙ ways_met n turned.falls turned.continues t)

  leaves_head : (s : States)
      → meet_ways (Some (condition s).states) (turn s).breaks ≡ way_after n (left_from_head p turned).falls s
  leaves_head s = ap₂ meet_ways (ap Some (h.states s)) (turn_leaves.breaks s) ∙ ways_met n (Some p.effects) turned.breaks s

  pub leaves_loop : LeavesAs n (loop condition body) (loop_exits p w)
  leaves_loop = record {
    falls = λ s.
        ap (λ t. meet_ways (Some (condition t).states) (turn t).breaks) (head s)
        ∙ leaves_head (states_after n head_effects s)
        ∙ way_then n head_effects (left_from_head p turned).falls s;
    breaks = λ s. refl;
    continues = λ s. refl;
    faults = λ s.
        ap (λ t. earliest (turn t).faults) (head s)
        ∙ turn_leaves.faults (states_after n head_effects s)
        ∙ ap faults_of (sym (found_after n head_effects turned.faults s));
  }

-- ---- locals of a block

pub leaves_scope : (added : States) (n m : ℕ) (rest : States → Left) (w : Exits) → m ≡ length added + n → LeavesAs m rest w
    → LeavesAs n (λ s. on_ways (dropped (length added)) (rest (added ++ s))) (entered n m added w)
leaves_scope added n m rest w e h = record {
  falls = λ s. ap (λ o. option_map (dropped (length added)) o) (h.falls (added ++ s)) ∙ dropped_way added n m w.falls s e;
  breaks = λ s. ap (λ o. option_map (dropped (length added)) o) (h.breaks (added ++ s)) ∙ dropped_way added n m w.breaks s e;
  continues = λ s. ap (λ o. option_map (dropped (length added)) o) (h.continues (added ++ s)) ∙ dropped_way added n m w.continues s e;
  faults = λ s. h.faults (added ++ s) ∙ ap faults_of (sym (found_begun added n m w.faults s e));
}
