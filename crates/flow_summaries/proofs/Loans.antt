-- What comes of the exits of a loan's block.
use Rattle.std.specs.Prelude.{length, option_map}
use Rattle.std.proofs.Common.{◌≡◌, ℕ, true, Option, Some, None, List, refl, sym, ap, ap₂, ◌∙◌}
use Rattle.cyc_tree.specs.Tree as tree
use Rattle.source_typing.specs.Faults.{earliest}
use Rattle.source_typing.specs.Left.{Left, after_passed, if_lent, lending, lent_to}
use Rattle.source_typing.specs.Moves.{copy_if}
use Rattle.source_typing.specs.Scope.{Env, Local, find_local}
use Rattle.source_typing.specs.States.{Gone, Held, Lent, Plain, State, States, need_held, state_of, unless_lent, used_to, with_state}
use Rattle.check_faults.proofs.Earliest.{earliest_of_both, found_sooner}
use Rattle.check_faults.specs.Faults.{faults_of, first_of, sooner_found}
use Rattle.flow_summaries.proofs.Exits.{leaves_with_passage}
use Rattle.flow_summaries.proofs.Names.{IsNumbered, held_needed, lent_already, lent_anyway, lent_before, lent_found, numbered}
use Rattle.flow_summaries.proofs.Passages.{does_copy}
use Rattle.flow_summaries.proofs.Sooner.{sooner_joined}
use Rattle.flow_summaries.specs.Effects.{Effects}
use Rattle.flow_summaries.specs.Exits.{Exits, faults_lent, held_again, lent_in}
use Rattle.flow_summaries.specs.Laws.{LeavesAs, way_after}
use Rattle.flow_summaries.specs.Passages.{caused_by, caused_in, copied_if, found_in, unless_held}
use Rattle.flow_summaries.specs.Uses.{number_of}

-- ---- how a loan ends

abbrev ended : State → List Local → List ℕ → Option States → Option States
ended Lent ls x w = w
ended a ls x w = option_map (with_state ls x Held) w

ended_falls : (ls : List Local) (x : List ℕ) (l : Left) (a : State) → (if_lent a ls x l).falls ≡ ended a ls x l.falls
ended_falls ls x l = elim [ Plain ↦ refl | _ ↦ refl ]

ended_breaks : (ls : List Local) (x : List ℕ) (l : Left) (a : State) → (if_lent a ls x l).breaks ≡ ended a ls x l.breaks
ended_breaks ls x l = elim [ Plain ↦ refl | _ ↦ refl ]

ended_continues : (ls : List Local) (x : List ℕ) (l : Left) (a : State) → (if_lent a ls x l).continues ≡ ended a ls x l.continues
ended_continues ls x l = elim [ Plain ↦ refl | _ ↦ refl ]

ended_faults : (ls : List Local) (x : List ℕ) (l : Left) (a : State) → (if_lent a ls x l).faults ≡ l.faults
ended_faults ls x l = elim [ Plain ↦ refl | _ ↦ refl ]

-- ---- one local that is lent

module _ (ls : List Local) (x : tree.Name) (i : ℕ) (rest : States → Left) (w : Exits) (q : number_of ls x.text ≡ Some i)
    (k : LeavesAs (length ls) rest w) where
  abbrev n : ℕ
  n = length ls

  abbrev own : States → State
  own s = state_of ls x.text s

  abbrev lent : States → States
  lent s = with_state ls x.text Lent s

  begun_lent : (s : States) → (used_to ls x need_held Lent s).states ≡ lent s
  begun_lent s = ap (λ a. with_state ls x.text a s) (lent_anyway (own s))

  already : (s : States) (o : Option Effects) → own s ≡ Lent → way_after n o (lent s) ≡ way_after n (held_again i o) s
  already s None p = refl
  already s (Some d) p = ap Some (lent_already x.text i ls d s q p)

  before : (s : States) (o : Option Effects) → unless_lent (own s) Held ≡ Held
      → option_map (with_state ls x.text Held) (way_after n o (lent s)) ≡ way_after n (held_again i o) s
  before s None p = refl
  before s (Some d) p = ap Some (lent_before x.text i ls d s q p)

  ends_way : (s : States) (o : Option Effects) (a : State) → own s ≡ a → ended a ls x.text (way_after n o (lent s)) ≡ way_after n (held_again i o) s
  ends_way s o Plain p = before s o (ap (λ b. unless_lent b Held) p)
  ends_way s o Held p = before s o (ap (λ b. unless_lent b Held) p)
  ends_way s o Gone p = before s o (ap (λ b. unless_lent b Held) p)
  ends_way s o Lent p = already s o p

  abbrev within : States → Left
  within s = after_passed (used_to ls x need_held Lent s) rest

  abbrev leaves : States → Left
  leaves s = if_lent (own s) ls x.text (within s)

  lent_faults : (s : States) → earliest (leaves s).faults ≡ faults_of (found_in n (faults_lent x.at i w.faults) s)
  lent_faults s =
      ap earliest (ended_faults ls x.text (within s) (own s))
      ∙ earliest_of_both (need_held x.at (own s)) (rest (used_to ls x need_held Lent s).states).faults
      ∙ ap₂ first_of (held_needed x.at (own s)) (ap (λ t. earliest (rest t).faults) (begun_lent s) ∙ k.faults (lent s))
      ∙ sym (found_sooner (caused_by (own s) (unless_held x.at)) (found_in n w.faults (lent s)))
      ∙ ap faults_of (sym (sooner_joined (caused_by (own s) (unless_held x.at)) (caused_in n w.faults.caused (lent s)) w.faults.always)
      ∙ ap (λ o. sooner_found o w.faults.always) (lent_found x.text i x.at ls w.faults.caused s q))

  leaves_lent : (at : ℕ) → LeavesAs n leaves (lent_in at x (Some i) w)
  leaves_lent at = record {
    falls = λ s.
        ended_falls ls x.text (within s) (own s)
        ∙ ap (λ o. ended (own s) ls x.text o) (ap (λ t. (rest t).falls) (begun_lent s) ∙ k.falls (lent s))
        ∙ ends_way s w.falls (own s) refl;
    breaks = λ s.
        ended_breaks ls x.text (within s) (own s)
        ∙ ap (λ o. ended (own s) ls x.text o) (ap (λ t. (rest t).breaks) (begun_lent s) ∙ k.breaks (lent s))
        ∙ ends_way s w.breaks (own s) refl;
    continues = λ s.
        ended_continues ls x.text (within s) (own s)
        ∙ ap (λ o. ended (own s) ls x.text o) (ap (λ t. (rest t).continues) (begun_lent s) ∙ k.continues (lent s))
        ∙ ends_way s w.continues (own s) refl;
    faults = lent_faults;
  }

-- ---- a loan

pub leaves_loan : (g : Env) (at : ℕ) (x : tree.Name) (rest : States → Left) (w : Exits) → LeavesAs (length g.locals) rest w
    → LeavesAs (length g.locals) (lending g at x rest) (lent_in at x (number_of g.locals x.text) w)
leaves_loan g at x rest w k = by (find_local g.locals x.text) (number_of g.locals x.text) (numbered g.locals x.text) refl
  where
    by : (l : Option Local) (o : Option ℕ) → IsNumbered l o → number_of g.locals x.text ≡ o
        → LeavesAs (length g.locals) (lent_to l g.locals at x rest) (lent_in at x o w)
    by None None h q =
        leaves_with_passage (length g.locals) (copy_if true at) rest (copied_if true at) w (does_copy (length g.locals) true at) k
    by None (Some i) h q = absurd h
    by (Some l) None h q = absurd h
    by (Some l) (Some i) h q = leaves_lent g.locals x i rest w q k at
