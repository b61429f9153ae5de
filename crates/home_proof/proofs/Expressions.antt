-- The code of an expression takes the address of a word where `&` is applied to its name, and its blocks are those of the arrays that it makes.
use Rattle.std.proofs.Common.{◌≡◌, ℕ, suc, ◌+◌, Bool, true, false, List, [], ◌∷◌, ◌++◌, length, refl, sym, subst}
use Rattle.std.specs.Prelude.{◌||◌, bytes_eq, codes, if◌then◌else◌}
use Rattle.std.proofs.lemmas.List.{append_assoc}
use Rattle.cyc_tree.specs.Tree.{Expression, Expressions, NoExpressions, MoreExpressions, Links, NoLinks, MoreLinks, Suffixes, NoSuffixes, Index, Dot, Arrow}
use Rattle.cyc_tree.specs.Tree.{Made, Name, One, Array}
use Rattle.source_meaning.specs.Shapes.{Shape, Part, has_tag, part_shape, parts_of}
use Rattle.source_meaning.specs.Sizes.{rounded_up}
use Rattle.source_meaning.specs.Steps.{World}
use Rattle.source_meaning.specs.Operators.{operator_shape}
use Rattle.source_meaning.specs.Places.{string_at}
use Rattle.source_meaning.specs.Conversions.{cells_of}
use Rattle.source_meaning.specs.Expressions.{is_unique_region}
use Rattle.core_meaning.specs.Core.{Do, HeapHandle, OwnAddress, Statement}
use Rattle.source_lowering.specs.Layouts.{extent_of}
use Rattle.source_lowering.specs.Members.{words_in}
use Rattle.source_lowering.specs.Lowered.{Named, makes_struct, member_number, prefix_shape, static_shape, suffixed_shape, values_by, expression_values}
use Rattle.source_lowering.specs.Lowered.{suffix_values, whole_values, Left, left_of, member_at}
use Rattle.source_lowering.specs.Lowered.{member_behind, element_at, suffixed_code, put_code, place_code, word_code}
use Rattle.source_lowering.specs.Lowered.{call_parameters, argument_words, expression_code, links_code, all_code, any_code, arguments_code, new_code}
use Rattle.source_lowering.specs.Lowered.{whole_code, members_code, element_names}
use Rattle.source_lowering.specs.Lowerable.{TakesSuffixes, TakesMembers, Takes, TakesPlace, TakesAll, TakesLinks, TakesNew, TakesWhole, TakesMade}
use Rattle.home_proof.specs.Arguments.{
  AreEnough,
  AreEnoughBy,
  HasArguments,
  AllHaveArguments,
  LinksHaveArguments,
  SuffixesHaveArguments,
  MadeHasArguments,
}
use Rattle.home_proof.specs.Names.{is_name, is_word, pointed, pointed_in_all, pointed_in_links, pointed_in_made, pointed_in_suffixes}
use Rattle.home_proof.specs.Numbered.{all_flags, expression_flags, link_flags, made_flags, suffix_flags}
use Rattle.home_proof.proofs.Codes.{or_false, or_swap, plain}
use Rattle.home_proof.proofs.Leads.{Does, LeftDoes, ahead, behind, both, nothing, said}
use Rattle.home_proof.proofs.Branches.{unless_does, when_does}
use Rattle.home_proof.proofs.Pieces.{call_plain, conversion_plain, operator_plain, stores_plain, text_plain, union_plain, word_plain}
use Rattle.home_proof.proofs.Variables.{address_does, placed, put_does, read_does, struct_word, whole_word}
use Rattle.home_proof.proofs.Parts.{
  array_does,
  behind_left,
  copied_does,
  element_does,
  element_left,
  made_does,
  member_does,
  member_left,
  pointed_does,
  pointed_left,
  prefix_does,
  stored_left,
}

left_said : {names : List Named} {left : Left} {p q : List ℕ → Bool} {f g : List Bool} → LeftDoes names left p f → ((n : List ℕ) → p n ≡ q n) → f ≡ g
    → LeftDoes names left q g
left_said a e i = record { value = λ d. said (a.value d) e i; pointer = λ d. said (a.pointer d) e i }

-- an index stands behind what it is of
regrouped : (index left others : Bool) → ((index || left) || others) ≡ (left || (index || others))
regrouped true true others = refl
regrouped true false others = refl
regrouped false true others = refl
regrouped false false others = refl

-- a name that is called, and is no struct's, has its parameters
enough : (w : World) (name : List ℕ) (arguments : Expressions) → has_tag w.structs name ≡ false
    → AreEnoughBy (makes_struct w name) (call_parameters w name) arguments → AreEnough (call_parameters w name) arguments
enough w name arguments e h =
    subst (λ b. AreEnoughBy b (call_parameters w name) arguments) (by (bytes_eq name (codes "getchar")) (bytes_eq name (codes "putchar"))) h
  where
    by : (reads writes : Bool) → (if reads then false else (if writes then false else has_tag w.structs name)) ≡ false
    by true writes = refl
    by false true = refl
    by false false = e

module _ (w : World) where
  -- the place of a variable is asked for by its name
  variable_does : (names : List Named) (name : Name) (d next : ℕ)
      → Does names (place_code w names (Expression.Variable name) d next) (λ n. is_name n (Expression.Variable name) || pointed n (Expression.Variable name)) []
  variable_does names name d next = said (address_does w names name.text d) (λ n. sym (or_false (bytes_eq name.text n))) refl

  mutual
    pub stored_does : (names : List Named) (e : Expression) (d next : ℕ) → TakesPlace w names e → HasArguments w e
        → Does names (put_code w names e d next) (λ n. pointed n e) (expression_flags e)
    stored_does names (Expression.Variable name) d next h g = put_does w names name.text d
    stored_does names (Expression.Grouped at inner) d next h g = stored_does names inner d next h g
    stored_does names (Expression.Prefixed at operator operand) d next h g =
        let s = prefix_shape operator (static_shape w names operand) in
        let p = d + words_in s in
        behind
        (pointed_does w (λ n. is_name n operand) operator (static_shape w names operand) p (expression_code w names operand p next) (Takes w names operand) h
        (λ k. expression_does names operand p next k g))
        (stores_plain s p d 0 0)
    stored_does names (Expression.Suffixed primary others) d next h g =
        let first = next + length (suffix_values w names others) in
        stored_left w _ (d + words_in (suffixed_shape w others (static_shape w names primary))) d
        (primary_does names others (static_shape w names primary) (λ x. expression_code w names primary x first)
        (λ x. place_code w names primary x first) primary next h g.1 (λ k x. expression_does names primary x first k g.0)
        (λ k is x. placed w names primary (place_code w names primary x first) (expression_flags primary) (place_does names primary x first k g.0) is))
    stored_does names _ d next h g = absurd h

    pub place_does : (names : List Named) (e : Expression) (d next : ℕ) → TakesPlace w names e → HasArguments w e
        → Does names (place_code w names e d next) (λ n. is_name n e || pointed n e) (expression_flags e)
    place_does names (Expression.Variable name) d next h g = variable_does names name d next
    place_does names (Expression.Grouped at inner) d next h g = place_does names inner d next h g
    place_does names (Expression.Prefixed at operator operand) d next h g =
        pointed_does w (λ n. is_name n operand) operator (static_shape w names operand) d (expression_code w names operand d next) (Takes w names operand) h
        (λ k. expression_does names operand d next k g)
    place_does names (Expression.Suffixed primary others) d next h g =
        let first = next + length (suffix_values w names others) in
        pointed_left w _ d
        (primary_does names others (static_shape w names primary) (λ x. expression_code w names primary x first)
        (λ x. place_code w names primary x first) primary next h g.1 (λ k x. expression_does names primary x first k g.0)
        (λ k is x. placed w names primary (place_code w names primary x first) (expression_flags primary) (place_does names primary x first k g.0) is))
    place_does names _ d next h g = absurd h

    pub expression_does : (names : List Named) (e : Expression) (d next : ℕ) → Takes w names e → HasArguments w e
        → Does names (expression_code w names e d next) (λ n. pointed n e) (expression_flags e)
    expression_does names (Expression.Number at value suffix) d next h g = nothing (plain refl (λ o i. refl))
    expression_does names (Expression.Character at byte) d next h g = nothing (plain refl (λ o i. refl))
    expression_does names (Expression.Null at) d next h g = nothing (plain refl (λ o i. refl))
    expression_does names (Expression.HeapRegion at) d next h g = nothing (plain refl (λ o i. refl))
    expression_does names (Expression.UniqueRegion at) d next h g = nothing (plain refl (λ o i. refl))
    expression_does names (Expression.Variable name) d next h g = read_does w names name.text d
    expression_does names (Expression.Call name arguments) d next h g =
        behind (arguments_does names (call_parameters w name.text) arguments d next (enough w name.text arguments h.0 g.0) h.1 g.1)
        (call_plain w name.text (argument_words (call_parameters w name.text) arguments) d)
    expression_does names (Expression.Text at bytes) d next h g = nothing (text_plain (string_at w.strings at) d)
    expression_does names (Expression.NumElts at operand) d next h g = behind (expression_does names operand d next h g) (plain refl (λ o i. refl))
    expression_does names (Expression.Grouped at inner) d next h g = expression_does names inner d next h g
    expression_does names (Expression.Prefixed at operator operand) d next h g =
        prefix_does w (λ n. is_name n operand) operator (static_shape w names operand) d (expression_code w names operand (d + 1) next)
        (expression_code w names operand d next) (place_code w names operand d next) (Takes w names operand) (TakesPlace w names operand) h
        (λ k. expression_does names operand (d + 1) next k g) (λ k. expression_does names operand d next k g) (λ k. place_does names operand d next k g)
    expression_does names (Expression.Suffixed primary others) d next h g =
        let first = next + length (suffix_values w names others) in
        (primary_does names others (static_shape w names primary) (λ x. expression_code w names primary x first)
        (λ x. place_code w names primary x first) primary next h.0 g.1 (λ k x. expression_does names primary x first k g.0)
        (λ k is x. placed w names primary (place_code w names primary x first) (expression_flags primary) (place_does names primary x first k g.0) is)).value d
    expression_does names (Expression.New at new) d next h g =
        ahead {xs = Do (HeapHandle d) ∷ []} (plain refl (λ o i. refl)) (new_does names false new d next h g)
    expression_does names (Expression.NewIn at handle new) d next h g =
        both (expression_does names handle d next h.0 g.0)
        (new_does names (is_unique_region handle) new d (next + length (expression_values w names handle)) h.1 g.1)
    expression_does names (Expression.Chain first others) d next h g =
        both (expression_does names first d next h.0 g.0)
        (links_does names others (static_shape w names first) d (next + length (expression_values w names first)) h.1 g.1)
    expression_does names (Expression.AllOf first others) d next h g =
        both (behind (expression_does names first d next h.0 g.0) (word_plain (static_shape w names first) d))
        (behind (each_does names others d (next + length (expression_values w names first)) h.1 g.1) (plain refl (λ o i. refl)))
    expression_does names (Expression.AnyOf first others) d next h g =
        both (behind (expression_does names first d next h.0 g.0) (word_plain (static_shape w names first) d))
        (behind (any_does names others d (next + length (expression_values w names first)) h.1 g.1) (plain refl (λ o i. refl)))
    expression_does names (Expression.Assign place value) d next h g =
        said
        (both (expression_does names value d next h.1.0 g.1)
        (ahead (conversion_plain w (static_shape w names place) (static_shape w names value) d)
        (stored_does names place d (next + length (expression_values w names value)) h.0 g.0)))
        (λ n. or_swap (pointed n value) (pointed n place)) refl
    expression_does names _ d next h g = absurd h

    -- suffixes on a primary expression
    primary_does : (names : List Named) (suffixes : Suffixes) (s : Shape) (value pointer : ℕ → List Statement) (primary : Expression) (next : ℕ)
        → TakesSuffixes w names suffixes s (Takes w names primary) (TakesPlace w names primary) → SuffixesHaveArguments w suffixes
        → (Takes w names primary → (d : ℕ) → Does names (value d) (λ n. pointed n primary) (expression_flags primary))
        → (TakesPlace w names primary → is_word s ≡ false → (d : ℕ) → Does names (pointer d) (λ n. pointed n primary) (expression_flags primary))
        → LeftDoes names (suffixed_code w names suffixes (left_of s value pointer) next) (λ n. pointed n primary || pointed_in_suffixes n suffixes)
        (suffix_flags suffixes ++ expression_flags primary)
    primary_does names NoSuffixes s value pointer primary next takes g v p = absurd takes
    primary_does names (Index index others) s value pointer primary next takes g v p =
        let first = next + length (suffix_values w names others) in
        let code : ℕ → List Statement = λ d. expression_code w names index d first in
        left_said
        (suffixes_does names others (element_at w s code value) next (λ n. pointed n index || pointed n primary)
        (expression_flags index ++ expression_flags primary) takes.1.1.1 g.1
        (element_left w s code value (λ d. expression_does names index d first takes.1.0 g.0) (v takes.0)))
        (λ n. regrouped (pointed n index) (pointed n primary) (pointed_in_suffixes n others))
        (sym (append_assoc (suffix_flags others) (expression_flags index) (expression_flags primary)))
    primary_does names (Dot field others) s value pointer primary next takes g v p =
        suffixes_does names others (member_at w s pointer 0 0 field.text) next (λ n. pointed n primary) (expression_flags primary) takes.1.1 g
        (member_left w s pointer 0 0 field.text (p takes.0 (struct_word w s field.text takes.1.0)))
    primary_does names (Arrow field others) s value pointer primary next takes g v p =
        let left : Left = left_of s value pointer in
        suffixes_does names others (member_behind w left field.text) next (λ n. pointed n primary) (expression_flags primary) takes.1.1 g
        (behind_left w left field.text (v takes.0))

    -- further ones on what they lead to
    suffixes_does : (names : List Named) (suffixes : Suffixes) (left : Left) (next : ℕ) (p : List ℕ → Bool) (f : List Bool)
        → TakesMembers w names suffixes left.shape → SuffixesHaveArguments w suffixes → LeftDoes names left p f
        → LeftDoes names (suffixed_code w names suffixes left next) (λ n. p n || pointed_in_suffixes n suffixes) (suffix_flags suffixes ++ f)
    suffixes_does names NoSuffixes left next p f takes g h = left_said h (λ n. sym (or_false (p n))) refl
    suffixes_does names (Index index others) left next p f takes g h =
        let first = next + length (suffix_values w names others) in
        let code : ℕ → List Statement = λ d. expression_code w names index d first in
        left_said
        (suffixes_does names others (element_at w left.shape code left.value) next (λ n. pointed n index || p n) (expression_flags index ++ f) takes.1.1.1 g.1
        (element_left w left.shape code left.value (λ d. expression_does names index d first takes.1.0 g.0) h.value))
        (λ n. regrouped (pointed n index) (p n) (pointed_in_suffixes n others)) (sym (append_assoc (suffix_flags others) (expression_flags index) f))
    suffixes_does names (Dot field others) left next p f takes g h =
        suffixes_does names others (member_at w left.shape left.pointer left.cells left.bytes field.text) next p f takes.1 g
        (member_left w left.shape left.pointer left.cells left.bytes field.text h.pointer)
    suffixes_does names (Arrow field others) left next p f takes g h =
        suffixes_does names others (member_behind w left field.text) next p f takes.1.1 g (behind_left w left field.text h.value)

    arguments_does : (names : List Named) (shapes : List Shape) (es : Expressions) (d next : ℕ) → AreEnough shapes es → TakesAll w names es
        → AllHaveArguments w es → Does names (arguments_code w names shapes es d next) (λ n. pointed_in_all n es) (all_flags es)
    arguments_does names [] NoExpressions d next few h g = nothing (plain refl (λ o i. refl))
    arguments_does names [] (MoreExpressions e es) d next few h g = absurd few
    arguments_does names (s ∷ ss) NoExpressions d next few h g = nothing (plain refl (λ o i. refl))
    arguments_does names (s ∷ ss) (MoreExpressions e es) d next few h g =
        both (expression_does names e d next h.0 g.0)
        (ahead (conversion_plain w s (static_shape w names e) d)
        (arguments_does names ss es (d + words_in s) (next + length (expression_values w names e)) few h.1 g.1))

    links_does : (names : List Named) (links : Links) (left : Shape) (d next : ℕ) → TakesLinks w names links → LinksHaveArguments w links
        → Does names (links_code w names links left d next) (λ n. pointed_in_links n links) (link_flags links)
    links_does names NoLinks left d next h g = nothing (plain refl (λ o i. refl))
    links_does names (MoreLinks operator operand others) left d next h g =
        both (expression_does names operand (d + words_in left) next h.0 g.0)
        (ahead (operator_plain operator left (static_shape w names operand) d)
        (links_does names others (operator_shape operator left (static_shape w names operand)) d (next + length (expression_values w names operand)) h.1 g.1))

    each_does : (names : List Named) (es : Expressions) (d next : ℕ) → TakesAll w names es → AllHaveArguments w es
        → Does names (all_code w names es d next) (λ n. pointed_in_all n es) (all_flags es)
    each_does names NoExpressions d next h g = nothing (plain refl (λ o i. refl))
    each_does names (MoreExpressions e es) d next h g =
        both
        (when_does d (expression_code w names e d next ++ word_code (static_shape w names e) d)
        (behind (expression_does names e d next h.0 g.0) (word_plain (static_shape w names e) d)))
        (each_does names es d (next + length (expression_values w names e)) h.1 g.1)

    any_does : (names : List Named) (es : Expressions) (d next : ℕ) → TakesAll w names es → AllHaveArguments w es
        → Does names (any_code w names es d next) (λ n. pointed_in_all n es) (all_flags es)
    any_does names NoExpressions d next h g = nothing (plain refl (λ o i. refl))
    any_does names (MoreExpressions e es) d next h g =
        both
        (unless_does d (expression_code w names e d next ++ word_code (static_shape w names e) d)
        (behind (expression_does names e d next h.0 g.0) (word_plain (static_shape w names e) d)))
        (any_does names es d (next + length (expression_values w names e)) h.1 g.1)

    new_does : (names : List Named) (unique : Bool) (new : Made) (d next : ℕ) → TakesNew w names new → MadeHasArguments w new
        → Does names (new_code w names unique new d next) (λ n. pointed_in_made n new) (made_flags new)
    new_does names unique (One e) d next h g =
        made_does w (whole_code w names e (d + 1) next) (expression_code w names e (d + 1) next) (TakesWhole w names e) (Takes w names e)
        (λ k. whole_does names e (d + 1) next k g) (λ k. expression_does names e (d + 1) next k g) unique (static_shape w names e) d h.1
    new_does names unique (Array index count element) d next h g =
        let inner = element_names index.text names in
        let first = next + length (expression_values w names count) in
        let s = static_shape w inner element in
        both (expression_does names count (d + 1) next h.0 g.0)
        (array_does w names index.text s d _
        (element_does w (whole_code w inner element (d + 3) first) (expression_code w inner element (d + 3) first) (TakesWhole w inner element)
        (Takes w inner element) (λ k. whole_does inner element (d + 3) first k g.1) (λ k. expression_does inner element (d + 3) first k g.1) s d h.1.1))

    -- structs and tagged unions
    pub whole_does : (names : List Named) (e : Expression) (d next : ℕ) → TakesWhole w names e → HasArguments w e
        → Does names (whole_code w names e d next) (λ n. pointed n e) (expression_flags e)
    whole_does names (Expression.Call name arguments) d next h g =
        ahead {xs = Do (OwnAddress d next) ∷ []} (plain refl (λ o i. refl))
        (members_does names (parts_of w.structs name.text) arguments d 0 0 (suc next) h.1 g.1)
    whole_does names (Expression.MakeUnion tag member value) d next h g =
        let parts = parts_of w.unions tag.text in
        ahead {xs = Do (OwnAddress d next) ∷ []} (plain refl (λ o i. refl))
        (behind (expression_does names value (d + 1) (suc next) h.1.1 g)
        (union_plain w (part_shape parts member.text) (static_shape w names value) (member_number parts member.text) d))
    whole_does names (Expression.Grouped at inner) d next h g = whole_does names inner d next h g
    whole_does names (Expression.Variable name) d next h g =
        let s = static_shape w names (Expression.Variable name) in
        copied_does w s d next _
        (placed w names (Expression.Variable name) (place_code w names (Expression.Variable name) d next) []
        (variable_does names name d next) (whole_word w s h.1))
    whole_does names (Expression.Suffixed primary others) d next h g =
        let first = suc next + length (suffix_values w names others) in
        copied_does w (static_shape w names (Expression.Suffixed primary others)) d next _
        (pointed_left w _ d
        (primary_does names others (static_shape w names primary) (λ x. expression_code w names primary x first)
        (λ x. place_code w names primary x first) primary (suc next) h.0 g.1 (λ k x. expression_does names primary x first k g.0)
        (λ k is x. placed w names primary (place_code w names primary x first) (expression_flags primary) (place_does names primary x first k g.0) is)))
    whole_does names (Expression.Prefixed at operator operand) d next h g =
        copied_does w (static_shape w names (Expression.Prefixed at operator operand)) d next _
        (pointed_does w (λ n. is_name n operand) operator (static_shape w names operand) d (expression_code w names operand d (suc next))
        (Takes w names operand) h.0 (λ k. expression_does names operand d (suc next) k g))
    whole_does names _ d next h g = absurd h

    members_does : (names : List Named) (ps : List Part) (arguments : Expressions) (d cells bytes next : ℕ) → TakesMade w names ps arguments
        → AllHaveArguments w arguments
        → Does names (members_code w names ps arguments d cells bytes next) (λ n. pointed_in_all n arguments) (all_flags arguments)
    members_does names [] NoExpressions d cells bytes next h g = nothing (plain refl (λ o i. refl))
    members_does names [] (MoreExpressions first others) d cells bytes next h g = absurd h
    members_does names (p ∷ ps) NoExpressions d cells bytes next h g = absurd h
    members_does names (p ∷ ps) (MoreExpressions first others) d cells bytes next h g =
        let at = rounded_up bytes (extent_of w p.shape).align in
        let values = values_by p.shape (whole_values w names first) (expression_values w names first) in
        both
        (member_does w (whole_code w names first (d + 1) next) (expression_code w names first (d + 1) next) (TakesWhole w names first) (Takes w names first)
        (λ k. whole_does names first (d + 1) next k g.0) (λ k. expression_does names first (d + 1) next k g.0)
        p.shape (static_shape w names first) d cells at h.0)
        (members_does names ps others d (cells + length (cells_of w p.shape)) (at + (extent_of w p.shape).size) (next + length values) h.1 g.1)
