-- Each expression that is in order runs safely and gives a value of its type.
use Rattle.std.proofs.Common.{◌≡◌, ℕ, Bool, true, false, ◌⊎◌, inl, List, [], ◌∷◌, refl, sym, ◌∙◌, ap, subst, ◌≤◌}
use Rattle.std.specs.Prelude.{◌&&◌, not, length, nat_lt}
use Rattle.cyc_tree.specs.Operands.{ExpressionHasOperands, AllHaveOperands, LinksHaveOperands, SuffixesHaveOperands, MadeHasOperands}
use Rattle.cyc_tree.specs.Tree.{Expression, Expressions, NoExpressions, MoreExpressions, Links, NoLinks, MoreLinks, Suffixes, NoSuffixes, Index}
use Rattle.cyc_tree.specs.Tree.{Dot, Arrow, Made, One, Array}
use Rattle.source_meaning.specs.Memory.{Region, AsChar}
use Rattle.source_meaning.specs.Steps.{Scope}
use Rattle.source_meaning.specs.Places.{Sense, contents, indexed, member}
use Rattle.source_meaning.specs.Calls.{number_type, call_sense}
use Rattle.source_meaning.specs.Calls as calls
use Rattle.source_meaning.specs.Expressions.{is_unique_region, sense, senses, linked, suffixed, new_sense, new_in_sense}
use Rattle.source_meaning.specs.Making.{heap_maker}
use Rattle.source_meaning.specs.Strings.{expression_strings, expressions_strings, links_strings, suffixes_strings, made_strings}
use Rattle.source_typing.specs.Verdicts.{Verdict, Of, both, after}
use Rattle.source_typing.specs.Regions.{TheHeap}
use Rattle.source_typing.specs.Expressions.{judge, judge_all, judge_links, judge_suffixes, judge_tests, judge_made, judge_made_in, number_typed}
use Rattle.source_typing.specs.Exchanges.{acts, all_acts, link_acts, suffix_acts}
use Rattle.source_typing.specs.Making as rules_of_making
use Rattle.source_typing.specs.Making.{Goal, To, ToUnique, goal_of, handled, enclosed, with_counter, inside}
use Rattle.source_typing.specs.Operators as rules
use Rattle.source_typing.specs.Operators.{tested_both}
use Rattle.source_typing.specs.Places as places
use Rattle.source_typing.specs.Calls.{Target, target}
use Rattle.source_typing.specs.Calls as rules_of_calls
use Rattle.source_typing.specs.Scope.{Env, Enclosing, InUnique, Value, meant, find_local}
use Rattle.source_typing.specs.Tables.{Part, Tag}
use Rattle.source_typing.specs.Types.{Int, Char, Null, Handle, is_testable, is_unique}
use Rattle.source_typing.proofs.Inversion.{of_is, after_is, both_is, goal_is, array_is, call_is, assign_is, prefix_is, links_first, suffixes_first, tests_first}
use Rattle.source_typing.proofs.OperatorsFit.{tested_both_is}
use Rattle.source_typing.specs.Flow.{use_of, use_links, use_suffixes, use_made}
use Rattle.source_typing.specs.Moves.{Use, nothing, value_use, applied_use, indexed_use, member_use, arrow_use, is_moved, is_unique_value}
use Rattle.source_typing.specs.States.{States, Passed}
use Rattle.type_proof.specs.Flat.{Tables}
use Rattle.type_proof.specs.Members.{HasStructMembers, AllHaveStructMembers, LinksHaveStructMembers, SuffixesHaveStructMembers, MadeHasStructMembers}
use Rattle.type_proof.proofs.invariant.Layouts.{agrees}
use Rattle.type_proof.proofs.invariant.Names.{NameOf}
use Rattle.type_proof.proofs.Strings.{AreFound, found_parts}
use Rattle.type_proof.proofs.expressions.Fixed.{EnclosingBelow, within}
use Rattle.type_proof.proofs.expressions.FatForms.{text_valued, denotes_text, denotes_counted, denotes_indexed}
use Rattle.type_proof.proofs.expressions.StructForms.{denotes_member, denotes_arrow}
use Rattle.type_proof.proofs.expressions.Makings.{heap_lives, aims_at_heap, denotes_made, denotes_heap}
use Rattle.type_proof.proofs.expressions.Single.{denotes_unique, no_array_alone}
use Rattle.type_proof.proofs.expressions.Counters.{counted_scope}
use Rattle.type_proof.proofs.expressions.WordRules.{Valued, value_of, fitted}
use Rattle.type_proof.proofs.expressions.Forms.{Denotes, denotes_constant, denotes_null, denotes_variable, denotes_grouped, uncopied_type, whole_is}
use Rattle.type_proof.proofs.expressions.Applied.{denotes_applied, denotes_tells, denotes_assigned, AllDenote}
use Rattle.type_proof.proofs.expressions.CallForms.{called_entry}
use Rattle.type_proof.proofs.expressions.UnionForms.{denotes_union}
use Rattle.type_proof.proofs.expressions.MakingForms.{must, still_first, still_second, tests_denote, filled_heap, made_in, filled_in}
use Rattle.type_proof.proofs.expressions.Settings.{unique_used, uses, as_values, Setting}
use Rattle.type_proof.proofs.expressions.Settings.{setting_counted, Tested, prefixed_sound}

-- Each expression, where its function's private cells may be touched, or where it calls, makes and assigns nothing.
module _ (n : ℕ) (d : Tables) (f : NameOf → Region) (b : ℕ) (low : ℕ) where
  mutual
    pub expression_sound : (g : Env) (scope : Scope) → Setting n d g scope f → (e : Expression) (i : Enclosing) (v : Value) → (b ≤ low) ⊎ (acts e ≡ [])
        → EnclosingBelow g.regions.count i
        → ExpressionHasOperands e → HasStructMembers (within i g) e
        → AreFound scope.world.strings (expression_strings e) → judge (within i g) e ≡ Of v
        → Denotes n d g scope f b low v (use_of (within i g) e) (sense e scope)
    expression_sound g scope setting (Expression.Number at k suffix) i v still l o ms fs j =
        denotes_constant n d g scope f b low (number_type k suffix) k v (value_of at (number_typed k suffix) v j)
    expression_sound g scope setting (Expression.Character at byte) i v still l o ms fs j =
        denotes_constant n d g scope f b low AsChar byte v (value_of at Char v j)
    expression_sound g scope setting (Expression.Text at bytes) i v still l o ms fs j =
        denotes_text n d g scope f b low at v fs.0 (text_valued at v (nat_lt (length bytes) 4096) j)
    expression_sound g scope setting (Expression.Null at) i v still l o ms fs j = denotes_null n d g scope f b low v (value_of at Null v j)
    expression_sound g scope setting (Expression.HeapRegion at) i v still l o ms fs j = denotes_heap n d g scope f b low v (value_of at (Handle TheHeap) v j)
    expression_sound g scope setting (Expression.UniqueRegion at) i v still l o ms fs j = absurd cc
    expression_sound g scope setting (Expression.MakeUnion tag m x) i v still l o ms fs j =
        let loudly : b ≤ low = must still (λ e. cc) in
        let a : (p : Tag × Part) × (a : Value) × (rules_of_calls.union_tag tag m (meant (within i g) tag.text) ≡ Of p) × (judge (within i g) x ≡ Of a)
        × (rules_of_calls.union_made (within i g) tag.at p a ≡ Of v) =
        both_is (rules_of_calls.union_tag tag m (meant (within i g) tag.text)) (judge (within i g) x) (rules_of_calls.union_made (within i g) tag.at) v j in
        denotes_union n d g scope f b low setting.structs loudly i l tag m a.0 a.1 v (use_of (within i g) x) (sense x scope) setting.plain a.2
        (expression_sound g scope setting x i a.1 (inl loudly) l o ms fs a.3) a.4
    expression_sound g scope setting (Expression.NumElts at x) i v still l o ms fs j =
        let a : (a : Value) × (judge (within i g) x ≡ Of a) × (rules.counted at a ≡ Of v) = after_is (judge (within i g) x) (rules.counted at) v j in
        denotes_counted n d g scope f b low at a.0 v (use_of (within i g) x) (sense x scope)
        (expression_sound g scope setting x i a.0 still l o ms fs a.1) a.2
    expression_sound g scope setting (Expression.New at new) i v still l o ms fs j =
        let loudly : b ≤ low = must still (λ e. cc) in
        new_sound g scope setting new i at v loudly l o ms fs j
    expression_sound g scope setting (Expression.NewIn at x new) i v still l o ms fs j =
        let loudly : b ≤ low = must still (λ e. cc) in
        new_in_sound g scope setting new i at (is_unique_region x) (judge (within i g) x) v (use_of (within i g) x) (sense x scope) loudly l o.1 ms.1
        (found_parts scope.world.strings (expression_strings x) (made_strings new) fs).1 (λ e q. unique_used (within i g) x e q)
        (λ a e. expression_sound g scope setting x i a (inl loudly) l o.0 ms.0
        (found_parts scope.world.strings (expression_strings x) (made_strings new) fs).0 e) j
    expression_sound g scope setting (Expression.Suffixed x es) i v still l o ms fs j =
        let a : (a : Value) × (judge (within i g) x ≡ Of a) = suffixes_first (within i g) (judge (within i g) x) es v j in
        subst (λ (y : Verdict Value). Denotes n d g scope f b low v (use_suffixes (within i g) y (use_of (within i g) x) es)
        (suffixed es scope (sense x scope)))
        (sym a.1)
        (suffixes_sound g scope setting es i a.0 v (use_of (within i g) x) (sense x scope)
        (still_second (acts x) (suffix_acts es) still) l o.1.1
        (subst (λ (y : Verdict Value). SuffixesHaveStructMembers (within i g) y es) a.1 ms.1)
        (found_parts scope.world.strings (expression_strings x) (suffixes_strings es) fs).1
        (expression_sound g scope setting x i a.0 (still_first (acts x) (suffix_acts es) still) l o.1.0 ms.0
        (found_parts scope.world.strings (expression_strings x) (suffixes_strings es) fs).0 a.1)
        (subst (λ (y : Verdict Value). judge_suffixes (within i g) y es ≡ Of v) a.1 j))
    expression_sound g scope setting (Expression.Variable x) i v still l o ms fs j =
        denotes_variable n d g scope f b low setting.structs setting.binds x (meant (within i g) x.text) v setting.plain refl j
        (find_local g.locals x.text) refl
    expression_sound g scope setting (Expression.Call x es) i v still l o ms fs j =
        let loudly : b ≤ low = must still (λ e. cc) in
        let c : (u : Target) × (vs : List Value) × (target x.at (meant (within i g) x.text) ≡ Of u) × (judge_all (within i g) es ≡ Of vs)
        × (rules_of_calls.called (within i g) x.at u vs ≡ Of v) =
        call_is (within i g) x es v j in
        subst (λ (p : States → Passed). Denotes n d g scope f b low v (value_use p) (call_sense scope.world x.text (senses es scope)))
        (λ a s. as_values (within i g) es s a)
        (called_entry n d g scope f b low loudly setting.invokes setting.strict setting.structs i l x.at x.text (meant (within i g) x.text) c.0 c.1
        (uses (within i g) es)
        (senses es scope) v setting.plain (setting.functions x.text) refl c.2
        (all_sound g scope setting es i c.1 loudly l o ms fs c.3) c.4)
    expression_sound g scope setting (Expression.Grouped at x) i v still l o ms fs j =
        let a : (a : Value) × (judge (within i g) x ≡ Of a) × (places.grouped at a ≡ Of v) = after_is (judge (within i g) x) (places.grouped at) v j in
        denotes_grouped n d g scope f b low at a.0 v (use_of (within i g) x) (sense x scope)
        (expression_sound g scope setting x i a.0 still l o ms fs a.1) a.2
    expression_sound g scope setting (Expression.Prefixed at p x) i v still l o ms fs j =
        let a : (a : Value) × (judge (within i g) x ≡ Of a) × (rules.prefixed (within i g) at p a ≡ Of v) = prefix_is (within i g) at p x v j in
        prefixed_sound n d g scope f b low setting i at p (sense x scope) a.0 v (use_of (within i g) x) (judge (within i g) x) a.1
        (expression_sound g scope setting x i a.0 still l o ms fs a.1) a.2
    expression_sound g scope setting (Expression.Chain x NoLinks) i v still l o ms fs j = absurd o.0
    expression_sound g scope setting (Expression.Chain x (MoreLinks p e es)) i v still l o ms fs j =
        let a : (a : Value) × (judge (within i g) x ≡ Of a) = links_first (within i g) (judge (within i g) x) (MoreLinks p e es) v j in
        links_sound g scope setting (MoreLinks p e es) i a.0 v (use_of (within i g) x) (sense x scope)
        (still_second (acts x) (link_acts (MoreLinks p e es)) still) l o.1.1 ms.1
        (found_parts scope.world.strings (expression_strings x) (links_strings (MoreLinks p e es)) fs).1
        (expression_sound g scope setting x i a.0 (still_first (acts x) (link_acts (MoreLinks p e es)) still) l o.1.0 ms.0
        (found_parts scope.world.strings (expression_strings x) (links_strings (MoreLinks p e es)) fs).0 a.1)
        (subst (λ (y : Verdict Value). judge_links (within i g) y (MoreLinks p e es) ≡ Of v) a.1 j)
    expression_sound g scope setting (Expression.AllOf x NoExpressions) i v still l o ms fs j = absurd o.0
    expression_sound g scope setting (Expression.AllOf x (MoreExpressions e es)) i v still l o ms fs j =
        let a : (a : Value) × (judge (within i g) x ≡ Of a) = tests_first (within i g) (judge (within i g) x) (MoreExpressions e es) v j in
        let h : Denotes n d g scope f b low a.0 (use_of (within i g) x) (sense x scope) =
        expression_sound g scope setting x i a.0 (still_first (acts x) (all_acts (MoreExpressions e es)) still) l o.1.0 ms.0
        (found_parts scope.world.strings (expression_strings x) (expressions_strings (MoreExpressions e es)) fs).0 a.1 in
        let r : Tested n d g scope f b low setting i a.0 v (MoreExpressions e es) =
        tests_sound g scope setting (MoreExpressions e es) i a.0 v (still_second (acts x) (all_acts (MoreExpressions e es)) still) l o.1.1 ms.1
        (found_parts scope.world.strings (expression_strings x) (expressions_strings (MoreExpressions e es)) fs).1
        (subst (λ (y : Verdict Value). judge_tests (within i g) y (MoreExpressions e es) ≡ Of v) a.1 j) in
        tests_denote n d g scope f b low setting i true x e es a.0 v h r o.0
    expression_sound g scope setting (Expression.AnyOf x NoExpressions) i v still l o ms fs j = absurd o.0
    expression_sound g scope setting (Expression.AnyOf x (MoreExpressions e es)) i v still l o ms fs j =
        let a : (a : Value) × (judge (within i g) x ≡ Of a) = tests_first (within i g) (judge (within i g) x) (MoreExpressions e es) v j in
        let h : Denotes n d g scope f b low a.0 (use_of (within i g) x) (sense x scope) =
        expression_sound g scope setting x i a.0 (still_first (acts x) (all_acts (MoreExpressions e es)) still) l o.1.0 ms.0
        (found_parts scope.world.strings (expression_strings x) (expressions_strings (MoreExpressions e es)) fs).0 a.1 in
        let r : Tested n d g scope f b low setting i a.0 v (MoreExpressions e es) =
        tests_sound g scope setting (MoreExpressions e es) i a.0 v (still_second (acts x) (all_acts (MoreExpressions e es)) still) l o.1.1 ms.1
        (found_parts scope.world.strings (expression_strings x) (expressions_strings (MoreExpressions e es)) fs).1
        (subst (λ (y : Verdict Value). judge_tests (within i g) y (MoreExpressions e es) ≡ Of v) a.1 j) in
        tests_denote n d g scope f b low setting i false x e es a.0 v h r o.0
    expression_sound g scope setting (Expression.Assign to from) i v still l o ms fs j =
        let loudly : b ≤ low = must still (λ e. cc) in
        let a : (a : Value) × (c : Value) × (judge (within i g) to ≡ Of a) × (judge (within i g) from ≡ Of c) × (places.assigned (within i g) a c ≡ Of v) =
        assign_is (within i g) to from v j in
        denotes_assigned n d g scope f b low i loudly (agrees d scope.world g.tables setting.structs) a.0 a.1 v (use_of (within i g) to)
        (use_of (within i g) from) (sense to scope) (sense from scope)
        (expression_sound g scope setting to i a.0 (inl loudly) l o.0 ms.0
        (found_parts scope.world.strings (expression_strings to) (expression_strings from) fs).0 a.2)
        (expression_sound g scope setting from i a.1 (inl loudly) l o.1 ms.1
        (found_parts scope.world.strings (expression_strings to) (expression_strings from) fs).1 a.3)
        a.4

    pub all_sound : (g : Env) (scope : Scope) → Setting n d g scope f → (es : Expressions) (i : Enclosing) (vs : List Value) → b ≤ low
        → EnclosingBelow g.regions.count i
        → AllHaveOperands es → AllHaveStructMembers (within i g) es → AreFound scope.world.strings (expressions_strings es) → judge_all (within i g) es ≡ Of vs
        → AllDenote n d g scope f b low vs (uses (within i g) es) (senses es scope)
    all_sound g scope setting NoExpressions i vs loudly l o ms fs j = subst (λ (us : List Value). AllDenote n d g scope f b low us [] []) (of_is [] vs j) tt
    all_sound g scope setting (MoreExpressions x es) i vs loudly l o ms fs j =
        let a : (a : Value) × (us : List Value) × (judge (within i g) x ≡ Of a) × (judge_all (within i g) es ≡ Of us)
        × (Rattle.source_typing.specs.Fixing.more a us ≡ Of vs) =
        both_is (judge (within i g) x) (judge_all (within i g) es) Rattle.source_typing.specs.Fixing.more vs j in
        subst (λ (us : List Value). AllDenote n d g scope f b low us (uses (within i g) (MoreExpressions x es)) (sense x scope ∷ senses es scope))
        (of_is (a.0 ∷ a.1) vs a.4) (
          expression_sound g scope setting x i a.0 (inl loudly) l o.0 ms.0
              (found_parts scope.world.strings (expression_strings x) (expressions_strings es) fs).0 a.2,
          all_sound g scope setting es i a.1 loudly l o.1 ms.1 (found_parts scope.world.strings (expression_strings x) (expressions_strings es) fs).1 a.3,
        )

    links_sound : (g : Env) (scope : Scope) → Setting n d g scope f → (es : Links) (i : Enclosing) (a v : Value) (u : Use) (left : Sense)
        → (b ≤ low) ⊎ (link_acts es ≡ [])
        → EnclosingBelow g.regions.count i
        → LinksHaveOperands es → LinksHaveStructMembers (within i g) es → AreFound scope.world.strings (links_strings es) → Denotes n d g scope f b low a u left
        → judge_links (within i g) (Of a) es ≡ Of v → Denotes n d g scope f b low v (use_links (within i g) u es) (linked es scope left)
    links_sound g scope setting NoLinks i a v u left still l o ms fs h j = subst (λ (y : Value). Denotes n d g scope f b low y u left) (of_is a v j) h
    links_sound g scope setting (MoreLinks p x es) i a v u left still l o ms fs h j =
        let c : (c : Value) × (both (Of a) (judge (within i g) x) (rules.applied (within i g) p) ≡ Of c) =
        links_first (within i g) (both (Of a) (judge (within i g) x) (rules.applied (within i g) p)) es v j in
        let e : (u : Value) × (y : Value) × (Of a ≡ Of u) × (judge (within i g) x ≡ Of y) × (rules.applied (within i g) p u y ≡ Of c.0) =
        both_is (Of a) (judge (within i g) x) (rules.applied (within i g) p) c.0 c.1 in
        let same : a ≡ e.0 = of_is a e.0 e.2 in
        links_sound g scope setting es i c.0 v (applied_use u (use_of (within i g) x)) (calls.applied p left (sense x scope))
        (still_second (acts x) (link_acts es) still) l o.1 ms.1
        (found_parts scope.world.strings (expression_strings x) (links_strings es) fs).1
        (denotes_applied n d g scope f b low i setting.strict p e.0.at e.0 e.1 c.0 u (use_of (within i g) x) left (sense x scope)
        (subst (λ (y : Value). Denotes n d g scope f b low y u left) same h)
        (expression_sound g scope setting x i e.1 (still_first (acts x) (link_acts es) still) l o.0 ms.0
        (found_parts scope.world.strings (expression_strings x) (links_strings es) fs).0 e.3) e.4)
        (subst (λ (y : Verdict Value). judge_links (within i g) y es ≡ Of v) c.1 j)

    suffixes_sound : (g : Env) (scope : Scope) → Setting n d g scope f → (es : Suffixes) (i : Enclosing) (a v : Value) (u : Use) (e : Sense)
        → (b ≤ low) ⊎ (suffix_acts es ≡ [])
        → EnclosingBelow g.regions.count i
        → SuffixesHaveOperands es → SuffixesHaveStructMembers (within i g) (Of a) es → AreFound scope.world.strings (suffixes_strings es)
        → Denotes n d g scope f b low a u e → judge_suffixes (within i g) (Of a) es ≡ Of v
        → Denotes n d g scope f b low v (use_suffixes (within i g) (Of a) u es) (suffixed es scope e)
    suffixes_sound g scope setting NoSuffixes i a v u e still l o ms fs h j = subst (λ (y : Value). Denotes n d g scope f b low y u e) (of_is a v j) h
    suffixes_sound g scope setting (Index x es) i a v u e still l o ms fs h j =
        let c : (c : Value) × (both (Of a) (judge (within i g) x) (places.indexed (within i g)) ≡ Of c) =
        suffixes_first (within i g) (both (Of a) (judge (within i g) x) (places.indexed (within i g))) es v j in
        let y : (u : Value) × (q : Value) × (Of a ≡ Of u) × (judge (within i g) x ≡ Of q) × (places.indexed (within i g) u q ≡ Of c.0) =
        both_is (Of a) (judge (within i g) x) (places.indexed (within i g)) c.0 c.1 in
        subst (λ (q : Verdict Value). Denotes n d g scope f b low v
        (use_suffixes (within i g) q (indexed_use a.at (is_moved (within i g) (both (Of a) (judge (within i g) x) (places.indexed (within i g)))) (Of a) u
        (use_of (within i g) x)) es) (suffixed es scope (indexed scope.world e (sense x scope)))) (sym c.1)
        (suffixes_sound g scope setting es i c.0 v (indexed_use a.at (is_moved (within i g) (both (Of a) (judge (within i g) x) (places.indexed (within i g))))
        (Of a) u (use_of (within i g) x)) (indexed scope.world e (sense x scope))
        (still_second (acts x) (suffix_acts es) still) l o.1
        (subst (λ (q : Verdict Value). SuffixesHaveStructMembers (within i g) q es) c.1 ms.1)
        (found_parts scope.world.strings (expression_strings x) (suffixes_strings es) fs).1
        (denotes_indexed n d g scope f b low i setting.strict setting.structs a.at
        (is_moved (within i g) (both (Of a) (judge (within i g) x) (places.indexed (within i g)))) (is_unique_value (Of a) && not u.whole)
        (u.own && not (is_unique_value (Of a))) y.0 y.1 c.0 u (use_of (within i g) x) e (sense x scope)
        (uncopied_type (within i g) (both (Of a) (judge (within i g) x) (places.indexed (within i g))) c.0 c.1)
        (λ q c t z. whole_is (is_unique_value (Of a)) u.whole (ap (λ (b : Value). is_unique b.type) (of_is a y.0 y.2) ∙ ap is_unique z) q)
        (subst (λ (q : Value). Denotes n d g scope f b low q u e) (of_is a y.0 y.2) h)
        (expression_sound g scope setting x i y.1 (still_first (acts x) (suffix_acts es) still) l o.0 ms.0
        (found_parts scope.world.strings (expression_strings x) (suffixes_strings es) fs).0 y.3) y.4)
        (subst (λ (q : Verdict Value). judge_suffixes (within i g) q es ≡ Of v) c.1 j))
    suffixes_sound g scope setting (Dot m es) i a v u e still l o ms fs h j =
        let c : (c : Value) × (places.member (within i g) m a ≡ Of c) = suffixes_first (within i g) (places.member (within i g) m a) es v j in
        subst (λ (q : Verdict Value). Denotes n d g scope f b low v
        (use_suffixes (within i g) q (member_use a.at (is_moved (within i g) (places.member (within i g) m a)) u) es)
        (suffixed es scope (member scope.world e m.text))) (sym c.1)
        (suffixes_sound g scope setting es i c.0 v (member_use a.at (is_moved (within i g) (places.member (within i g) m a)) u)
        (member scope.world e m.text) still l o (subst (λ (q : Verdict Value). SuffixesHaveStructMembers (within i g) q es) c.1 ms.1) fs
        (denotes_member n d g scope f b low setting.structs i m a.at (is_moved (within i g) (places.member (within i g) m a)) a c.0 u e ms.0
        (uncopied_type (within i g) (places.member (within i g) m a) c.0 c.1) h c.1)
        (subst (λ (y : Verdict Value). judge_suffixes (within i g) y es ≡ Of v) c.1 j))
    suffixes_sound g scope setting (Arrow m es) i a v u e still l o ms fs h j =
        let c : (c : Value) × (places.arrow (within i g) m a ≡ Of c) = suffixes_first (within i g) (places.arrow (within i g) m a) es v j in
        subst (λ (q : Verdict Value). Denotes n d g scope f b low v
        (use_suffixes (within i g) q (arrow_use a.at (is_moved (within i g) (places.arrow (within i g) m a)) (Of a) u) es)
        (suffixed es scope (member scope.world (contents scope.world e) m.text))) (sym c.1)
        (suffixes_sound g scope setting es i c.0 v (arrow_use a.at (is_moved (within i g) (places.arrow (within i g) m a)) (Of a) u)
        (member scope.world (contents scope.world e) m.text) still l o
        (subst (λ (q : Verdict Value). SuffixesHaveStructMembers (within i g) q es) c.1 ms.1) fs
        (denotes_arrow n d g scope f b low setting.structs i setting.strict m a.at (is_moved (within i g) (places.arrow (within i g) m a))
        (is_unique_value (Of a) && not u.whole) a c.0 u e ms.0 (uncopied_type (within i g) (places.arrow (within i g) m a) c.0 c.1)
        (λ q c t z. whole_is (is_unique_value (Of a)) u.whole (ap is_unique z) q) h c.1)
        (subst (λ (y : Verdict Value). judge_suffixes (within i g) y es ≡ Of v) c.1 j))

    -- the operands behind the first
    tests_sound : (g : Env) (scope : Scope) (setting : Setting n d g scope f) → (es : Expressions) (i : Enclosing) (a v : Value)
        → (b ≤ low) ⊎ (all_acts es ≡ [])
        → EnclosingBelow g.regions.count i → AllHaveOperands es → AllHaveStructMembers (within i g) es
        → AreFound scope.world.strings (expressions_strings es) → judge_tests (within i g) (Of a) es ≡ Of v → Tested n d g scope f b low setting i a v es
    tests_sound g scope setting NoExpressions i a v still l o ms fs j =
        record { others = tt; valued = λ h. subst (λ (y : Value). Valued y Int) (of_is a v j) h; some = λ s. absurd s }
    tests_sound g scope setting (MoreExpressions x es) i a v still l o ms fs j =
        let c : (c : Value) × (both (Of a) (judge (within i g) x) tested_both ≡ Of c) =
        tests_first (within i g) (both (Of a) (judge (within i g) x) tested_both) es v j in
        let e : (u : Value) × (y : Value) × (Of a ≡ Of u) × (judge (within i g) x ≡ Of y) × (tested_both u y ≡ Of c.0) =
        both_is (Of a) (judge (within i g) x) tested_both c.0 c.1 in
        let q : (is_testable e.0.type ≡ true) × (is_testable e.1.type ≡ true) × (c.0.type ≡ Int) = tested_both_is e.0 e.1 c.0 e.4 in
        let r : Tested n d g scope f b low setting i c.0 v es =
        tests_sound g scope setting es i c.0 v (still_second (acts x) (all_acts es) still) l o.1 ms.1
        (found_parts scope.world.strings (expression_strings x) (expressions_strings es) fs).1
        (subst (λ (y : Verdict Value). judge_tests (within i g) y es ≡ Of v) c.1 j) in
        let h : Valued v Int = r.valued (fitted (is_testable e.0.type && is_testable e.1.type) e.0.at e.0.at Int c.0 e.4).1 in
        record {
          others = (
            denotes_tells n d g scope f b low e.1 (use_of (within i g) x) (sense x scope)
                (expression_sound g scope setting x i e.1 (still_first (acts x) (all_acts es) still) l o.0 ms.0
                (found_parts scope.world.strings (expression_strings x) (expressions_strings es) fs).0 e.3) q.1,
            r.others,
          );
          valued = λ z. h;
          some = λ z. (subst (λ (y : Value). is_testable y.type ≡ true) (sym (of_is a e.0 e.2)) q.0, h);
        }

    -- a value that is made in the heap
    new_sound : (g : Env) (scope : Scope) → Setting n d g scope f → (new : Made) (i : Enclosing) (at : ℕ) (v : Value) → b ≤ low
        → EnclosingBelow g.regions.count i
        → MadeHasOperands new → MadeHasStructMembers (within i g) new → AreFound scope.world.strings (made_strings new)
        → judge_made (within i g) at (Of (To TheHeap)) new ≡ Of v
        → Denotes n d g scope f b low v (use_made (within i g) new nothing) (new_sense new scope)
    new_sound g scope setting (Array y c x) i at v loudly l o ms fs j =
        let strings : AreFound scope.world.strings (expression_strings c) × AreFound scope.world.strings (expression_strings x) =
        found_parts scope.world.strings (expression_strings c) (expression_strings x) fs in
        filled_heap n d g scope f b low setting loudly y c x i at v
        (λ p e. expression_sound g scope setting c i p (inl loudly) l o.0 ms.0 strings.0 e)
        (λ q m e. expression_sound (with_counter y g) (counted_scope g scope f y m) (setting_counted n d g scope f y m setting) x i q (inl loudly) l o.1 ms.1
        strings.1 e) j
    new_sound g scope setting (One x) i at v loudly l o ms fs j =
        let a : (y : Goal) × (a : Value) × (Of (To TheHeap) ≡ Of y) × (judge (within i g) x ≡ Of a) × (rules_of_making.made at y a ≡ Of v) =
        goal_is at (Of (To TheHeap)) (judge (within i g) x) v j in
        denotes_made n d g scope f b low loudly at TheHeap heap_maker nothing a.1 v (use_of (within i g) x) (sense x scope)
        (agrees d scope.world g.tables setting.structs)
        (heap_lives n d g scope f b low) tt
        (λ st z. aims_at_heap n d g scope f b low st) (expression_sound g scope setting x i a.1 (inl loudly) l o ms fs a.3)
        (subst (λ (y : Goal). rules_of_making.made at y a.1 ≡ Of v) (sym (of_is (To TheHeap) a.0 a.2)) a.4)

    -- and one in the region of a handle, inside of which its operand is judged
    new_in_sound : (g : Env) (scope : Scope) → Setting n d g scope f → (new : Made) (i : Enclosing) (at : ℕ) (c : Bool) (hv : Verdict Value) (v : Value)
        (uh : Use) (handle : Sense) → b ≤ low → EnclosingBelow g.regions.count i
        → MadeHasOperands new
        → MadeHasStructMembers (inside (goal_of c (within i g) hv) (within i g)) new → AreFound scope.world.strings (made_strings new)
        → (c ≡ true → (s : States) → uh.look s ≡ nothing s) → ((a : Value) → hv ≡ Of a → Denotes n d g scope f b low a uh handle)
        → judge_made_in (within i g) at (goal_of c (within i g) hv) new ≡ Of v
        → Denotes n d g scope f b low v (use_made (inside (goal_of c (within i g) hv) (within i g)) new uh.look) (new_in_sense new scope c handle)
    new_in_sound g scope setting (Array y c x) i at true hv v uh handle loudly l o ms fs e h j =
        let g1 : Env = within InUnique g in
        let a : (z : Goal) × (p : Value) × (q : Value) × (Of ToUnique ≡ Of z) × (judge g1 c ≡ Of p) × (judge (with_counter y g1) x ≡ Of q)
        × (rules_of_making.array_made at z (p, q) ≡ Of v) =
        array_is at (Of ToUnique) (judge g1 c) (judge (with_counter y g1) x) v j in
        absurd (no_array_alone at a.0 a.1 a.2 v a.3 a.6)
    new_in_sound g scope setting (Array y c x) i at false hv v uh handle loudly l o ms fs e h j =
        let goes_to : Enclosing = enclosed (after hv (handled (within i g))) in
        let strings : AreFound scope.world.strings (expression_strings c) × AreFound scope.world.strings (expression_strings x) =
        found_parts scope.world.strings (expression_strings c) (expression_strings x) fs in
        filled_in n d g scope f b low setting loudly y c x i at hv v uh handle
        (λ under p e. expression_sound g scope setting c goes_to p (inl loudly) under o.0 ms.0 strings.0 e)
        (λ under q m e. expression_sound (with_counter y g) (counted_scope g scope f y m) (setting_counted n d g scope f y m setting) x goes_to q
        (inl loudly) under
        o.1 ms.1 strings.1 e) h j
    new_in_sound g scope setting (One x) i at true hv v uh handle loudly l o ms fs e h j =
        let a : (y : Goal) × (a : Value) × (Of ToUnique ≡ Of y) × (judge (within InUnique g) x ≡ Of a) × (rules_of_making.made at y a ≡ Of v) =
        goal_is at (Of ToUnique) (judge (within InUnique g) x) v j in
        denotes_unique n d g scope f b low loudly at uh.look a.1 v (use_of (within InUnique g) x) (sense x scope)
        (agrees d scope.world g.tables setting.structs) (e refl)
        (expression_sound g scope setting x InUnique a.1 (inl loudly) tt o ms fs a.3)
        (subst (λ (y : Goal). rules_of_making.made at y a.1 ≡ Of v) (sym (of_is ToUnique a.0 a.2)) a.4)
    new_in_sound g scope setting (One x) i at false hv v uh handle loudly l o ms fs e h j =
        let goes_to : Enclosing = enclosed (after hv (handled (within i g))) in
        made_in n d g scope f b low setting loudly x i at hv v uh handle
        (λ under p e. expression_sound g scope setting x goes_to p (inl loudly) under o ms fs e) h j
