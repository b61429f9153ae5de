-- Parts one after another, from the first one on.
use Rattle.std.proofs.Common.{List, [], ap, ap₂, refl, sym, ◌∙◌, ◌∷◌, ◌≡◌}
use Rattle.cyc_tree.specs.Tree.{Expression, Expressions, Links, MoreExpressions, MoreLinks, NoExpressions, NoLinks}
use Rattle.cyc_tree.specs.View.{OneSuffix, suffixes_of}
use Rattle.flow_effects.proofs.Turns.{nothing_first, nothing_last, turns_joined}
use Rattle.flow_summaries.specs.Expressions.{uses_all, uses_links, uses_of, uses_suffixes, uses_tests}
use Rattle.flow_summaries.specs.Passages.{Passage, copied_if, in_turn, in_turn_or_not, unchanged}
use Rattle.flow_summaries.specs.Uses.{Uses, arrow_uses, indexed_uses, member_uses, uses_as_place, uses_as_value}
use Rattle.source_typing.specs.Expressions.{judge}
use Rattle.source_typing.specs.Moves.{is_moved, place_at}
use Rattle.source_typing.specs.Places.{arrow, indexed, member}
use Rattle.source_typing.specs.Scope.{Env, Value}
use Rattle.source_typing.specs.Verdicts.{Verdict, after, both}
use Rattle.std.specs.Prelude.{false, not, ◌&&◌}
use Rattle.check_faults.proofs.Shortened.{shortened_after, shortened_both}
use Rattle.check_faults.specs.Verdicts.{shortened}
use Rattle.check_expressions.specs.Suffixes.{short_suffix}
use Rattle.flow_check.proofs.Shortly.{moved_shortly, placed_shortly, unique_shortly}
use Rattle.flow_check.specs.Folded.{all_short_uses, passed_all, passed_links, passed_tests}
use Rattle.flow_check.specs.Short.{is_moved_short}

-- ---- arguments

all_after : (g : Env) (p : Passage) (es : Expressions) → passed_all g p es ≡ in_turn p (uses_all g es)
all_after g p NoExpressions = sym (nothing_last p)
all_after g p (MoreExpressions e es) =
    all_after g (in_turn p (uses_of g e).value) es ∙ turns_joined p (uses_of g e).value (uses_all g es)

pub all_passed : (g : Env) (es : Expressions) → passed_all g unchanged es ≡ uses_all g es
all_passed g es = all_after g unchanged es ∙ nothing_first (uses_all g es)

-- ---- operands

pub links_after : (g : Env) (p : Passage) (ls : Links) → uses_links g (uses_as_value p) ls ≡ uses_as_value (passed_links g p ls)
links_after g p NoLinks = refl
links_after g p (MoreLinks o e ls) = links_after g (in_turn p (uses_of g e).look) ls

pub tests_after : (g : Env) (p : Passage) (es : Expressions) → uses_tests g (uses_as_value p) es ≡ uses_as_value (passed_tests g p es)
tests_after g p NoExpressions = refl
tests_after g p (MoreExpressions e es) = tests_after g (in_turn_or_not p (uses_of g e).look) es

-- ---- suffixes

-- a suffix by what is answered of what stands before it
index_shortly : (g : Env) (v : Verdict Value) (e : Expression)
    → shortened (both v (judge g e) (indexed g)) ≡ short_suffix g (shortened v) (OneSuffix.Index e)
index_shortly g v e = shortened_both v (judge g e) (indexed g)

pub suffixes_shortly : (g : Env) (v : Verdict Value) (u : Uses) (xs : List OneSuffix)
    → uses_suffixes g v u (suffixes_of xs) ≡ all_short_uses g (shortened v) u xs
suffixes_shortly g v u [] = refl
suffixes_shortly g v u (OneSuffix.Index e ∷ xs) =
    let w : Verdict Value = both v (judge g e) (indexed g) in
    let after_it : shortened w ≡ short_suffix g (shortened v) (OneSuffix.Index e) = index_shortly g v e in
    suffixes_shortly g w (indexed_uses (place_at 0 v) (is_moved g w) v u (uses_of g e)) xs
    ∙ ap₂ (λ s x. all_short_uses g s x xs) after_it
    ((λ j. uses_as_place (placed_shortly v j) ((moved_shortly g w ∙ ap (is_moved_short g) after_it) j) (u.own && not (unique_shortly v j))
    (in_turn (uses_of g e).look (in_turn u.look (copied_if (unique_shortly v j && not u.whole) (placed_shortly v j))))))
suffixes_shortly g v u (OneSuffix.Dot f ∷ xs) =
    let w : Verdict Value = after v (member g f) in
    let after_it : shortened w ≡ short_suffix g (shortened v) (OneSuffix.Dot f) = shortened_after v (member g f) in
    suffixes_shortly g w (member_uses (place_at 0 v) (is_moved g w) u) xs
    ∙ ap₂ (λ s x. all_short_uses g s x xs) after_it
    (ap₂ (λ at m. member_uses at m u) (placed_shortly v) (moved_shortly g w ∙ ap (is_moved_short g) after_it))
suffixes_shortly g v u (OneSuffix.Arrow f ∷ xs) =
    let w : Verdict Value = after v (arrow g f) in
    let after_it : shortened w ≡ short_suffix g (shortened v) (OneSuffix.Arrow f) = shortened_after v (arrow g f) in
    suffixes_shortly g w (arrow_uses (place_at 0 v) (is_moved g w) v u) xs
    ∙ ap₂ (λ s x. all_short_uses g s x xs) after_it
    ((λ j. uses_as_place (placed_shortly v j) ((moved_shortly g w ∙ ap (is_moved_short g) after_it) j) false
    (in_turn u.look (copied_if (unique_shortly v j && not u.whole) (placed_shortly v j)))))
