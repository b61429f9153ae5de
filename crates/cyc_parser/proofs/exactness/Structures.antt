-- The readers of structs, unions and what globals begin with are exact.
use Rattle.std.proofs.Common.{◌≡◌, Bool, true, false, ◌||◌, List, [], ◌∷◌, refl, inl, inr}
use Rattle.cyc_lexer.specs.declared.token.Keyword.TheVariants as word
use Rattle.cyc_lexer.specs.declared.token.Sign.TheVariants as sign_of
use Rattle.cyc_lexer.specs.declared.token.TokenKind.{TokenKind}
use Rattle.cyc_lexer.specs.declared.token.TokenKind.TheVariants as kind
use Rattle.cyc_tree.specs.Tree.{Member, Structure, Initial, Given}
use Rattle.source_grammar.specs.Phrases.{Tokens, KeywordAt, SignAt, IsKeyword, IsName, Each}
use Rattle.source_grammar.specs.TypeGrammar.{AreRegions, IsTyped}
use Rattle.source_grammar.specs.StatementGrammar.{IsCount}
use Rattle.source_grammar.specs.Grammar.{IsMember, AreMembers, IsStructure, IsConstant, IsInitial}
use Rattle.cyc_parser.specs.Tests.{is_sign, begins_type}
use Rattle.cyc_parser.specs.Reader.{next_is}
use Rattle.cyc_parser.specs.ReadPrograms.{member, members, tagged_union, initial}
use Rattle.cyc_parser.specs.Exact.{Exact, Anything, ends, always, Stops, IsDone, Then, Either, Whole}
use Rattle.cyc_parser.proofs.Exact.{done_exact, exact_as}
use Rattle.cyc_parser.proofs.exactness.Composed.{begins_with, stops_at, stops_behind, then_exact, meets_exact, either_exact, option_exact, finish, ends_wider}
use Rattle.cyc_parser.proofs.exactness.Listed.{each_exact}
use Rattle.cyc_parser.proofs.exactness.Types.{sign_exact, keyword_exact, name_exact, region_list_exact, type_first, typed_name_exact, element_count_exact}
use Rattle.cyc_parser.proofs.exactness.Types.{constant_exact}

-- ---- members

member_exact : Exact Anything (Whole IsMember) ends member
unfolding member
member_exact =
    exact_as Anything (Then (Whole IsTyped) (λ m. Then (Whole (SignAt sign_of.Semicolon)) (λ _. IsDone m))) ends _
    (then_exact _ _ typed_name_exact _ ends _ (λ m. then_exact _ _ (sign_exact sign_of.Semicolon) _ ends _ (λ _. done_exact m)))
    (Whole IsMember)
    (λ b m from to w. finish (λ m to. IsMember m from to) w.3.3 (w.1, w.2, (w.3.0, w.3.2)))
    (λ b m from to w. (m, w.0, w.1, (w.2.0, to, w.2.1, (refl, refl))))

member_begins : (m : Member) (from to : Tokens) → IsMember m from to → next_is begins_type from ≡ true
member_begins m from to w = let f = type_first m.of from w.1.0 w.1.1 in begins_with begins_type from f.0 f.1 f.2 f.3

abbrev members_on : TokenKind → Bool
members_on k = begins_type k || false

abbrev MembersRead : Bool → List Member → Tokens → Tokens → Type 0
MembersRead =
    Then (Whole (SignAt sign_of.LeftBrace))
    (λ _. Then (Whole IsMember) (λ m. Then (Whole (Each IsMember)) (λ ms. Then (Whole (SignAt sign_of.RightBrace)) (λ _.
    Then (Whole (SignAt sign_of.Semicolon)) (λ _. IsDone (m ∷ ms))))))

members_into : (b : Bool) (ms : List Member) (from to : Tokens) → MembersRead b ms from to → AreMembers ms from to
members_into b ms from to w =
    let first = w.3 in let others = first.3 in let brace = others.3 in
    finish (λ ms to. AreMembers ms from to) brace.3.3
    (w.1, others.1, brace.1, (w.0, w.2), (first.1, first.2, others.2), (brace.0, brace.2), (brace.3.0, brace.3.2))

members_back : (b : Bool) (ms : List Member) (from to : Tokens) → AreMembers ms from to → MembersRead b ms from to
members_back b [] from to w = absurd w
members_back b (m ∷ ms) from to w =
    (w.3.0, w.0, w.3.1, (m, w.4.0, w.4.1, (ms, w.1, w.4.2, (w.5.0, w.2, w.5.1, (w.6.0, to, w.6.1, (refl, refl))))))

pub members_exact : Exact Anything (Whole AreMembers) ends members
unfolding members
members_exact =
    exact_as Anything MembersRead ends _
    (then_exact _ _ (sign_exact sign_of.LeftBrace) _ ends _ (λ _. then_exact _ _ member_exact _ ends _ (λ m.
    meets_exact _ _ _ (each_exact begins_type IsMember (λ k. false) member member_exact member_begins (λ k h. refl)) _ ends _ (λ ms.
    then_exact _ _ (sign_exact sign_of.RightBrace) _ ends _ (λ _. then_exact _ _ (sign_exact sign_of.Semicolon) _ ends _ (λ _. done_exact (m ∷ ms))))
    (λ b ms x mid to w s. stops_at members_on mid _ _ w.2.1 refl))))
    (Whole AreMembers) members_into members_back

pub members_begin : (ms : List Member) (from to : Tokens) → AreMembers ms from to → next_is (is_sign sign_of.LeftBrace) from ≡ true
members_begin [] from to w = absurd w
members_begin (m ∷ ms) from to w = begins_with (is_sign sign_of.LeftBrace) from _ _ w.3.1.1 refl

pub members_stop : (ms : List Member) (from to : Tokens) → AreMembers ms from to → next_is (is_sign sign_of.Less) from ≡ false
members_stop [] from to w = absurd w
members_stop (m ∷ ms) from to w = stops_at (is_sign sign_of.Less) from _ _ w.3.1.1 refl

-- ---- tagged unions

abbrev pub IsTaggedUnion : Structure → Tokens → Tokens → Type 0
IsTaggedUnion s from to = (a : Tokens) × (b : Tokens) × SignAt sign_of.Tagged s.at from a × IsKeyword word.Union a b × IsStructure s b to

pub tagged_union_exact : Exact Anything (Whole IsTaggedUnion) ends tagged_union
unfolding tagged_union
tagged_union_exact =
    exact_as Anything
    (Then (Whole (SignAt sign_of.Tagged)) (λ at. Then (Whole (KeywordAt word.Union)) (λ _. Then (Whole IsName) (λ tag. Then (Whole AreRegions) (λ rs.
    Then (Whole AreMembers) (λ ms. IsDone (record { at = at; tag = tag; regions = rs; members = ms }))))))) ends _
    (then_exact _ _ (sign_exact sign_of.Tagged) _ ends _ (λ at. then_exact _ _ (keyword_exact word.Union) _ ends _ (λ _.
    then_exact _ _ name_exact _ ends _ (λ tag. meets_exact _ _ _ region_list_exact _ ends _ (λ rs.
    then_exact _ _ members_exact _ ends _ (λ ms. done_exact (record { at = at; tag = tag; regions = rs; members = ms })))
    (λ b rs u mid to w s. members_stop w.0 mid w.1 w.2)))))
    (Whole IsTaggedUnion)
    (λ b u from to w.
    let name = w.3.3 in
    finish (λ u to. IsTaggedUnion u from to) name.3.3.3 (w.1, w.3.1, w.2, (w.3.0, w.3.2), (name.1, name.3.1, name.2, name.3.2, name.3.3.2)))
    (λ b u from to w.
    (u.at, w.0, w.2, (w.3.0, w.1, w.3.1, (u.tag, w.4.0, w.4.2, (u.regions, w.4.1, w.4.3, (u.members, to, w.4.4, (refl, refl)))))))

-- ---- what a global begins with

abbrev pub initial_on : TokenKind → Bool
initial_on k = is_sign sign_of.Assign k || is_sign sign_of.LeftBracket k

assign_on : (k : TokenKind) → is_sign sign_of.Assign k ≡ true → initial_on k ≡ true
assign_on (kind.Sign sign_of.Assign) h = refl
assign_on _ h = absurd cc

bracket_on : (k : TokenKind) → is_sign sign_of.LeftBracket k ≡ true → initial_on k ≡ true
bracket_on (kind.Sign sign_of.LeftBracket) h = refl
bracket_on _ h = absurd cc

abbrev WithConstant : Bool → Initial → Tokens → Tokens → Type 0
WithConstant = Then (Whole (SignAt sign_of.Assign)) (λ _. Then (Whole IsConstant) (λ c. IsDone (Given c)))

abbrev WithCount : Bool → Initial → Tokens → Tokens → Type 0
WithCount = Then (Whole IsCount) (λ n. IsDone (Initial.Elements n))

abbrev InitialRead : Bool → Initial → Tokens → Tokens → Type 0
InitialRead = Either WithConstant (Either WithCount (IsDone Initial.Unset))

initial_into : (b : Bool) (i : Initial) (from to : Tokens) → InitialRead b i from to → IsInitial i from to
initial_into b i from to (inl w) = finish (λ i to. IsInitial i from to) w.3.3 (w.1, (w.0, w.2), w.3.2)
initial_into b i from to (inr (inl w)) = finish (λ i to. IsInitial i from to) w.3 w.2
initial_into b i from to (inr (inr d)) = finish (λ i to. IsInitial i from to) d refl

initial_back : (b : Bool) (i : Initial) (from to : Tokens) → IsInitial i from to → InitialRead b i from to
initial_back b Initial.Unset from to w = inr (inr (refl, w))
initial_back b (Initial.Elements n) from to w = inr (inl (n, to, w, (refl, refl)))
initial_back b (Given c) from to w = inl (w.1.0, w.0, w.1.1, (c, to, w.2, (refl, refl)))

no_assign : (b : Bool) (i : Initial) (from to : Tokens) → Either WithCount (IsDone Initial.Unset) b i from to → Stops initial_on to
    → next_is (is_sign sign_of.Assign) from ≡ false
no_assign b i from to (inl w) s = stops_at (is_sign sign_of.Assign) from _ _ w.2.4.1.1 refl
no_assign b i from to (inr d) s = stops_behind (is_sign sign_of.Assign) initial_on assign_on d.1 s

pub initial_exact : Exact Anything (Whole IsInitial) (always initial_on) initial
unfolding initial
initial_exact =
    exact_as Anything InitialRead (always initial_on) _
    (either_exact (is_sign sign_of.Assign) (always initial_on)
    WithConstant _ (ends_wider WithConstant _ (then_exact _ _ (sign_exact sign_of.Assign) _ ends _ (λ _.
    then_exact _ _ constant_exact _ ends _ (λ c. done_exact (Given c)))) (always initial_on))
    (Either WithCount (IsDone Initial.Unset)) _ (option_exact (is_sign sign_of.LeftBracket) (always initial_on)
    WithCount _ (ends_wider WithCount _ (then_exact _ _ element_count_exact _ ends _ (λ n. done_exact (Initial.Elements n))) (always initial_on))
    Initial.Unset (λ b i from to w. begins_with (is_sign sign_of.LeftBracket) from _ _ w.2.4.1.1 refl) bracket_on)
    (λ b i from to w. begins_with (is_sign sign_of.Assign) from _ _ w.2.1 refl) no_assign)
    (Whole IsInitial) initial_into initial_back
