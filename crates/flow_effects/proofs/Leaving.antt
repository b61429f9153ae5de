-- Exits by what is done on each way.
use Rattle.std.proofs.Common.{Bool, None, Option, Some, false, refl, true, ℕ, ◌∙◌, ◌≡◌}
use Rattle.std.specs.Prelude.{option_map, ◌||◌}
use Rattle.cyc_tree.specs.Tree as tree
use Rattle.source_typing.specs.States.{States}
use Rattle.check_faults.specs.Faults.{sooner_found}
use Rattle.check_faults.specs.declared.fault.Fault.{Fault}
use Rattle.flow_summaries.specs.Effects.{Effects, Holds, met_ways, then_way, to_head, way_below, with_number}
use Rattle.flow_summaries.specs.Exits.{Exits, either_exits, entered, exits, exits_in_sequence, lent_in, looped, with_passage}
use Rattle.flow_summaries.specs.Passages.{Faults, Passage, faults_after, in_turn}
use Rattle.flow_effects.specs.Exits.{met_by}
use Rattle.flow_effects.specs.Passed.{left_after, lent_within}
use Rattle.flow_effects.specs.Tables.{passage_in, way_if}
use Rattle.flow_effects.specs.Touches.{Touch, joined}

-- a statement that falls or not, by its passage and its other ways
abbrev pub exits_with : Bool → Passage → Option Effects → Option Effects → Exits
exits_with b p breaks continues = exits (way_if b p.effects) breaks continues p.faults

pub same_exits : (b : Bool) (p q : Passage) (x y z w : Option Effects) → p ≡ q → x ≡ y → z ≡ w → exits_with b p x z ≡ exits_with b q y w
same_exits b p q x y z w e f g = λ j. exits_with b (e j) (f j) (g j)

pub after_is : (b : Bool) (p q : Passage) (x y : Option Effects)
    → exits_with b (in_turn p q) (then_way p.effects x) (then_way p.effects y) ≡ with_passage p (exits_with b q x y)
after_is true p q x y = refl
after_is false p q x y = refl

pub sequence_is : (b : Bool) (p q : Passage) (x y z w : Option Effects)
    → exits_with b (in_turn p q) (met_ways x (then_way p.effects z)) (met_ways y (then_way p.effects w))
    ≡ exits_in_sequence (exits_with true p x y) (exits_with b q z w)
sequence_is true p q x y z w = refl
sequence_is false p q x y z w = refl

-- what isn't reachable isn't checked
pub stopped_is : (b : Bool) (p : Passage) (x y : Option Effects) (w : Exits) → b ≡ false → exits_with b p x y ≡ exits_in_sequence (exits_with b p x y) w
stopped_is false p x y w e = refl
stopped_is true p x y w e = absurd cc

pub either_is : (b c : Bool) (s t : ℕ → Touch) (f g : Option Fault) (x y z w : Option Effects)
    → exits_with (b || c) (passage_in (λ i. joined (met_by b c) (s i) (t i)) (sooner_found f g)) (met_ways x z) (met_ways y w)
    ≡ either_exits (exits_with b (passage_in s f) x y) (exits_with c (passage_in t g) z w)
either_is true true s t f g x y z w = refl
either_is true false s t f g x y z w = refl
either_is false true s t f g x y z w = refl
either_is false false s t f g x y z w = refl

pub entered_is : (b : Bool) (n m : ℕ) (added : States) (p : Passage) (x y : Option Effects)
    → exits_with b (left_after n m added p) (way_below n x) (way_below n y) ≡ entered n m added (exits_with b p x y)
entered_is true n m added p x y = refl
entered_is false n m added p x y = refl

pub lent_in_is : (b : Bool) (at i : ℕ) (name : tree.Name) (p : Passage) (x y : Option Effects)
    → exits_with b (lent_within name.at i p) (option_map (with_number i Holds) x) (option_map (with_number i Holds) y)
    ≡ lent_in at name (Some i) (exits_with b p x y)
lent_in_is true at i name p x y = refl
lent_in_is false at i name p x y = refl

-- A loop by the effects of its condition, and by its turn: from its head it is left by its condition, or by a `break`.
pub looped_is : (condition : Passage) (turn : Exits) (head left : Effects) (f : Faults)
    → head ≡ to_head (met_ways turn.falls turn.continues) → Some left ≡ then_way head (met_ways (Some condition.effects) turn.breaks)
    → f ≡ faults_after head turn.faults → exits (Some left) None None f ≡ looped condition turn
looped_is condition turn head left f h l e =
    (λ j. exits (l j) None None (e j))
    ∙ (λ j. exits (then_way (h j) (met_ways (Some condition.effects) turn.breaks)) None None (faults_after (h j) turn.faults))
