-- The readers of declarations are exact.
use Rattle.std.proofs.Common.{◌≡◌, ℕ, nat_eq, Bool, true, false, not, refl, sym, subst, inl, inr}
use Rattle.cyc_lexer.specs.declared.token.Keyword.{Keyword}
use Rattle.cyc_lexer.specs.declared.token.Keyword.TheVariants as word
use Rattle.cyc_lexer.specs.declared.token.Sign.TheVariants as sign_of
use Rattle.cyc_lexer.specs.declared.token.TokenKind.{TokenKind}
use Rattle.cyc_lexer.specs.declared.token.TokenKind.TheVariants as kind
use Rattle.cyc_tree.specs.Tree as tree
use Rattle.cyc_tree.specs.Tree.{Name, RegionName, TypeName, Base, Int, Unsigned, Char, Void, Struct, Union, Handle, Key, Expression, Declaration, Local, Open}
use Rattle.cyc_tree.specs.Tree.{Alias, NewKey}
use Rattle.cyc_tree.proofs.PartNesting.{initializer_nesting}
use Rattle.source_grammar.specs.Phrases.{Tokens, KeywordAt, IsName}
use Rattle.source_grammar.specs.TypeGrammar.{IsOneRegion, IsBase, IsType}
use Rattle.source_grammar.specs.StatementGrammar.{IsCount, IsInitializer, IsNameInParentheses, IsDeclaration}
use Rattle.cyc_parser.specs.Tests.{is_sign, is_keyword, keyword_number, is_type_word, begins_type, begins_declaration, continues}
use Rattle.cyc_parser.specs.Reader.{next_is}
use Rattle.cyc_parser.specs.ReadExpressions.{Reads}
use Rattle.cyc_parser.specs.ReadStatements.{initializer_by, local_by, parenthesized_name, region_declaration, alias_at, new_key_at, binding, declaration_by}
use Rattle.cyc_parser.specs.Exact.{Exact, Anything, ends, always, Whole, Within, IsDone, Then, Either}
use Rattle.cyc_parser.proofs.exactness.Parts.{begins_stops, stops_wider}
use Rattle.cyc_parser.proofs.Exact.{exact_as, exact_wider, done_exact}
use Rattle.cyc_parser.proofs.exactness.Types.{keyword_exact, name_exact, one_region_exact, type_exact, element_count_exact}
use Rattle.cyc_parser.proofs.exactness.Expressions.{IsExpressionAt}
use Rattle.cyc_parser.proofs.StatementsWithin.{IsDeclarationAt, within_none}
use Rattle.cyc_parser.proofs.exactness.Unguarded.{begins_within, read_on, read_closed, BehindSign, BehindKeyword, sign_then, keyword_then, choose_on, Made}
use Rattle.cyc_parser.proofs.exactness.Unguarded.{make_on, make_closed, EndsWith, end_with}

-- ---- a name in parentheses

pub parenthesized_name_exact : Exact Anything (Whole IsNameInParentheses) ends parenthesized_name
unfolding parenthesized_name
parenthesized_name_exact =
    exact_as Anything _ ends _ (sign_then sign_of.LeftParenthesis (read_closed name_exact (λ n. end_with sign_of.RightParenthesis n ends)))
    (Whole IsNameInParentheses)
    (λ b n from to w. (w.0, w.2.1, w.1, subst (λ (x : Name). IsName x w.0 w.2.1) (sym w.2.3.0) w.2.2, w.2.3.1))
    (λ b n from to w. (w.0, w.2, (n, w.1, w.3, (refl, w.4))))

-- ---- regions, aliases and keys

abbrev IsOpenEnd : ℕ → RegionName → Name → Bool → Declaration → Tokens → Tokens → Type 0
IsOpenEnd at r handle =
    BehindSign sign_of.Assign (BehindKeyword word.Open (Then (Whole IsNameInParentheses) (λ key. EndsWith sign_of.Semicolon (Open at r handle key))))

abbrev IsRegionPart : Bool → Declaration → Tokens → Tokens → Type 0
IsRegionPart =
    Then (Whole (KeywordAt word.Region)) (λ at. Then (Whole IsOneRegion) (λ r. Then (Whole IsName) (λ handle.
    Either (IsOpenEnd at r handle) (EndsWith sign_of.Semicolon (tree.Region at r handle)))))

region_exact : Exact Anything IsRegionPart ends region_declaration
unfolding region_declaration
region_exact =
    read_closed (keyword_exact word.Region) (λ at. read_closed one_region_exact (λ r. read_closed name_exact (λ handle.
    choose_on (is_sign sign_of.Assign)
    (sign_then sign_of.Assign (keyword_then word.Open
    (read_closed parenthesized_name_exact (λ key. end_with sign_of.Semicolon (Open at r handle key) ends))))
    (end_with sign_of.Semicolon (tree.Region at r handle) ends)
    (λ b a from to w. rw w.1.1.1 refl)
    (λ b a from to w h. rw w.1.1.1 refl))))

abbrev IsAliasPart : ℕ → Bool → Declaration → Tokens → Tokens → Type 0
IsAliasPart at =
    BehindKeyword word.Alias (Then (Whole IsOneRegion) (λ r. Then (Whole IsType) (λ t. Then (Whole IsName) (λ alias.
    BehindSign sign_of.Assign (Then (Whole IsName) (λ pointer. EndsWith sign_of.Semicolon (Alias at r t alias pointer)))))))

alias_exact : (at : ℕ) → Exact Anything (IsAliasPart at) ends (alias_at at)
unfolding alias_at
alias_exact at =
    keyword_then word.Alias (read_closed one_region_exact (λ r.
    read_on type_exact
    (λ t. read_closed name_exact (λ alias. sign_then sign_of.Assign
    (read_closed name_exact (λ pointer. end_with sign_of.Semicolon (Alias at r t alias pointer) ends))))
    (λ b t y mid to w h. rw w.2 refl)))

abbrev IsKeyEnd : ℕ → RegionName → Name → Bool → Declaration → Tokens → Tokens → Type 0
IsKeyEnd at r key =
    BehindSign sign_of.RightBrace (BehindSign sign_of.Assign (BehindKeyword word.NewUkey
    (BehindSign sign_of.LeftParenthesis (BehindSign sign_of.RightParenthesis (EndsWith sign_of.Semicolon (NewKey at r key))))))

abbrev IsKeyPart : ℕ → Bool → Declaration → Tokens → Tokens → Type 0
IsKeyPart at =
    BehindKeyword word.NewDynamicRegion (BehindSign sign_of.LeftBrace (Then (Whole IsOneRegion) (λ r. Then (Whole IsName) (IsKeyEnd at r))))

new_key_exact : (at : ℕ) → Exact Anything (IsKeyPart at) ends (new_key_at at)
unfolding new_key_at
new_key_exact at =
    keyword_then word.NewDynamicRegion (sign_then sign_of.LeftBrace (read_closed one_region_exact (λ r. read_closed name_exact (λ key.
    sign_then sign_of.RightBrace (sign_then sign_of.Assign (keyword_then word.NewUkey (sign_then sign_of.LeftParenthesis
    (sign_then sign_of.RightParenthesis (end_with sign_of.Semicolon (NewKey at r key) ends)))))))))

abbrev IsLetPart : Bool → Declaration → Tokens → Tokens → Type 0
IsLetPart = Then (Whole (KeywordAt word.Let)) (λ at. Either (IsAliasPart at) (IsKeyPart at))

binding_exact : Exact Anything IsLetPart ends binding
unfolding binding
binding_exact =
    read_closed (keyword_exact word.Let) (λ at.
    choose_on (is_keyword word.Alias) (alias_exact at) (new_key_exact at) (λ b a from to w. rw w.1.1.1 refl) (λ b a from to w h. rw w.1.1.1 refl))

-- ---- what a local begins with

-- behind it stands `;`
abbrev pub no_semicolon : TokenKind → Bool
no_semicolon k = not (is_sign sign_of.Semicolon k)

continues_on : (k : TokenKind) → continues 0 k ≡ true → no_semicolon k ≡ true
continues_on (kind.Sign sign_of.Semicolon) h = absurd cc
continues_on _ h = refl

assign_on : (k : TokenKind) → is_sign sign_of.Assign k ≡ true → no_semicolon k ≡ true
assign_on (kind.Sign sign_of.Semicolon) h = absurd cc
assign_on _ h = refl

bracket_on : (k : TokenKind) → is_sign sign_of.LeftBracket k ≡ true → no_semicolon k ≡ true
bracket_on (kind.Sign sign_of.Semicolon) h = absurd cc
bracket_on _ h = refl

type_no_word : (w : Keyword) → is_type_word w ≡ true
    → (nat_eq (keyword_number w) (keyword_number word.Region) ≡ false) × (nat_eq (keyword_number w) (keyword_number word.Let) ≡ false)
type_no_word word.Region h = absurd cc
type_no_word word.Let h = absurd cc
type_no_word _ h = (refl, refl)

pub type_no_region : (k : TokenKind) → begins_type k ≡ true → is_keyword word.Region k ≡ false
type_no_region (kind.Keyword w) h = (type_no_word w h).0
type_no_region _ h = refl

pub type_no_let : (k : TokenKind) → begins_type k ≡ true → is_keyword word.Let k ≡ false
type_no_let (kind.Keyword w) h = (type_no_word w h).1
type_no_let _ h = refl

type_declares : (k : TokenKind) → begins_type k ≡ true → begins_declaration k ≡ true
type_declares k h = rw (type_no_region k h) (rw (type_no_let k h) h)

abbrev IsInitializerAt : ℕ → Bool → tree.Initializer → Tokens → Tokens → Type 0
IsInitializerAt d b i from to = IsInitializer i from to × Within b d (initializer_nesting i)

base_begins : (base : Base) (from to : Tokens) → IsBase base from to → next_is begins_type from ≡ true
base_begins Int from to w = rw w.1.1 refl
base_begins Unsigned from to w = rw w.1.1.1 refl
base_begins Char from to w = rw w.1.1 refl
base_begins Void from to w = rw w.1.1 refl
base_begins (Struct tag arguments) from to w = rw w.2.1.1 refl
base_begins (Union tag arguments) from to w = rw w.2.1.1 refl
base_begins (Handle region) from to w = rw w.1.1.1 refl
base_begins (Key region) from to w = rw w.1.1.1 refl

pub type_begins : (t : TypeName) (from to : Tokens) → IsType t from to → next_is begins_type from ≡ true
type_begins t from to w = base_begins t.base from w.0 w.2

module _ (d : ℕ) (expr : Reads Expression) (each : Exact Anything (IsExpressionAt d) (always (continues 0)) expr) where
  abbrev IsSomeInitializer : Bool → tree.Initializer → Tokens → Tokens → Type 0
  IsSomeInitializer =
      Either (BehindSign sign_of.Assign (Made tree.Value (IsExpressionAt d)))
      (Either (Made tree.Initializer.Elements (Whole IsCount)) (IsDone tree.Initializer.Unset))

  initializer_into : (b : Bool) (i : tree.Initializer) (from to : Tokens) → IsSomeInitializer b i from to → IsInitializerAt d b i from to
  initializer_into b i from to (inl w) = rw w.2.1 ((w.0, w.1, w.2.2.0), w.2.2.1)
  initializer_into b i from to (inr (inl w)) = rw w.1 (w.2, within_none b d)
  initializer_into b i from to (inr (inr w)) = rw w.0 (w.1, within_none b d)

  initializer_back : (b : Bool) (i : tree.Initializer) (from to : Tokens) → IsInitializerAt d b i from to → IsSomeInitializer b i from to
  initializer_back b tree.Initializer.Unset from to w = inr (inr (refl, w.0))
  initializer_back b (tree.Initializer.Elements n) from to w = inr (inl (n, refl, w.0))
  initializer_back b (tree.Value e) from to w = inl (w.0.0, w.0.1, (e, refl, (w.0.2, w.1)))

  initializer_exact : Exact Anything (IsInitializerAt d) (always no_semicolon) (initializer_by expr)
  unfolding initializer_by
  initializer_exact =
      exact_as Anything IsSomeInitializer (always no_semicolon) _
      (choose_on (is_sign sign_of.Assign)
      (sign_then sign_of.Assign (make_on tree.Value (always no_semicolon) each (λ a k h. continues_on k h)))
      (choose_on (is_sign sign_of.LeftBracket)
      (make_closed tree.Initializer.Elements (always no_semicolon) element_count_exact)
      (exact_wider Anything (IsDone tree.Initializer.Unset) ends (always no_semicolon) _ (done_exact tree.Initializer.Unset)
      (λ a k h. absurd cc))
      (λ b a from to w. rw w.2.4.1.1 refl)
      (λ b a from to w h. rw w.1 (stops_wider (is_sign sign_of.LeftBracket) no_semicolon bracket_on to h)))
      (λ b a from to w. rw w.1.1.1 refl)
      (λ b a from to w h. elim w [
        | inl v ↦ rw v.2.4.1.1 refl
        | inr v ↦ rw v.1 (stops_wider (is_sign sign_of.Assign) no_semicolon assign_on to h)
      ]))
      (IsInitializerAt d) initializer_into initializer_back

  abbrev IsLocalPart : Bool → Declaration → Tokens → Tokens → Type 0
  IsLocalPart = Then (Whole IsType) (λ t. Then (Whole IsName) (λ n. Then (IsInitializerAt d) (λ i. EndsWith sign_of.Semicolon (Local t n i))))

  local_exact : Exact Anything IsLocalPart ends (local_by expr)
  unfolding local_by
  local_exact =
      read_on type_exact
      (λ t. read_closed name_exact (λ n.
      read_on initializer_exact (λ i. end_with sign_of.Semicolon (Local t n i) ends) (λ b i y mid to w h. rw w.1.1.1 refl)))
      (λ b t y mid to w h. rw w.2 refl)

  region_into : (b : Bool) (x : Declaration) (from to : Tokens) → IsRegionPart b x from to → IsDeclarationAt d b x from to
  region_into b x from to (at, a, h, (r, m, hr, (handle, n, hn, inl w))) =
      subst (λ (y : Declaration). IsDeclarationAt d b y from to) (sym w.2.2.3.0)
      ((a, m, n, w.0, w.2.0, w.2.2.1, h, hr, hn, w.1, w.2.1, w.2.2.2, w.2.2.3.1), within_none b d)
  region_into b x from to (at, a, h, (r, m, hr, (handle, n, hn, inr w))) =
      subst (λ (y : Declaration). IsDeclarationAt d b y from to) (sym w.0) ((a, m, n, h, hr, hn, w.1), within_none b d)

  let_into : (b : Bool) (x : Declaration) (from to : Tokens) → IsLetPart b x from to → IsDeclarationAt d b x from to
  let_into b x from to (at, a, h, inl (m1, k, (r, m2, hr, (t, m3, ht, (alias, m4, hn, (m5, hs, (pointer, m6, hp, (same, end)))))))) =
      subst (λ (y : Declaration). IsDeclarationAt d b y from to) (sym same)
      ((a, m1, m2, m3, m4, m5, m6, h, k, hr, ht, hn, hs, hp, end), within_none b d)
  let_into b x from to (at, a, h, inr (m1, k, (m2, lb, (r, m3, hr, (key, m4, hn, (m5, rb, (m6, hs, (m7, nk, (m8, lp, (m9, rp, (same, end))))))))))) =
      subst (λ (y : Declaration). IsDeclarationAt d b y from to) (sym same)
      ((a, m1, m2, m3, m4, m5, m6, m7, m8, m9, h, k, lb, hr, hn, rb, hs, nk, lp, rp, end), within_none b d)

  abbrev IsPart : Bool → Declaration → Tokens → Tokens → Type 0
  IsPart = Either IsRegionPart (Either IsLetPart IsLocalPart)

  part_into : (b : Bool) (x : Declaration) (from to : Tokens) → IsPart b x from to → IsDeclarationAt d b x from to
  part_into b x from to (inl w) = region_into b x from to w
  part_into b x from to (inr (inl w)) = let_into b x from to w
  part_into b x from to (inr (inr w)) =
      subst (λ (y : Declaration). IsDeclarationAt d b y from to) (sym w.3.3.3.0)
      ((w.1, w.3.1, w.3.3.1, w.2, w.3.2, w.3.3.2.0, w.3.3.3.1), w.3.3.2.1)

  part_back : (b : Bool) (x : Declaration) (from to : Tokens) → IsDeclarationAt d b x from to → IsPart b x from to
  part_back b (Local t n i) from to w =
      inr (inr (t, w.0.0, w.0.3, (n, w.0.1, w.0.4, (i, w.0.2, (w.0.5, w.1), (refl, w.0.6)))))
  part_back b (tree.Region at r handle) from to w =
      inl (at, w.0.0, w.0.3, (r, w.0.1, w.0.4, (handle, w.0.2, w.0.5, inr (refl, w.0.6))))
  part_back b (Open at r handle key) from to w =
      let v = w.0 in
      inl (at, v.0, v.6, (r, v.1, v.7, (handle, v.2, v.8, inl (v.3, v.9, (v.4, v.10, (key, v.5, v.11, (refl, v.12)))))))
  part_back b (Alias at r t alias pointer) from to w =
      let v = w.0 in
      inr (inl (at, v.0, v.7, inl (v.1, v.8, (r, v.2, v.9, (t, v.3, v.10, (alias, v.4, v.11, (v.5, v.12, (pointer, v.6, v.13, (refl, v.14)))))))))
  part_back b (NewKey at r key) from to w =
      let v = w.0 in
      let end : IsKeyEnd at r key b (NewKey at r key) v.4 to = (v.5, v.15, (v.6, v.16, (v.7, v.17, (v.8, v.18, (v.9, v.19, (refl, v.20)))))) in
      inr (inl (at, v.0, v.10, inr (v.1, v.11, (v.2, v.12, (r, v.3, v.13, (key, v.4, v.14, end))))))

  pub declaration_by_exact : Exact Anything (IsDeclarationAt d) ends (declaration_by expr)
  unfolding declaration_by
  declaration_by_exact =
      exact_as Anything IsPart ends _
      (choose_on (is_keyword word.Region) region_exact
      (choose_on (is_keyword word.Let) binding_exact local_exact
      (λ b a from to w. rw w.2.1 refl)
      (λ b a from to w h. begins_stops begins_type (is_keyword word.Let) type_no_let from (type_begins w.0 from w.1 w.2)))
      (λ b a from to w. rw w.2.1 refl)
      (λ b a from to w h. elim w [
        | inl v ↦ rw v.2.1 refl
        | inr v ↦ begins_stops begins_type (is_keyword word.Region) type_no_region from (type_begins v.0 from v.1 v.2)
      ]))
      (IsDeclarationAt d) part_into part_back

pub declaration_begins : (x : Declaration) (from to : Tokens) → IsDeclaration x from to → next_is begins_declaration from ≡ true
declaration_begins (Local t n i) from to w = begins_within begins_type begins_declaration type_declares from (type_begins t from w.0 w.3)
declaration_begins (tree.Region at r handle) from to w = rw w.3.1 refl
declaration_begins (Open at r handle key) from to w = rw w.6.1 refl
declaration_begins (Alias at r t alias pointer) from to w = rw w.7.1 refl
declaration_begins (NewKey at r key) from to w = rw w.10.1 refl
