-- View of code: what it is for a reader to be exact: it reads just the phrases of a relation, the longest one from the front, and refuses at the first token
-- with which the tokens so far begin no phrase. A phrase has a relation for each of two nestings: within the one that the reader allows (true), and any
-- (false).
use Rattle.std.specs.Prelude.{◌≡◌, ◌⊎◌, ◌≤◌, ℕ, ◌^◌, List, [], ◌∷◌, ◌++◌, Bool, true, false, Ok, Err}
use Rattle.cyc_lexer.specs.Lexing.{Token}
use Rattle.cyc_lexer.specs.declared.token.TokenKind.{TokenKind}
use Rattle.cyc_parser.specs.declared.fault.ParseFault.TheVariants.{Parse, TooDeep, Memory}
use Rattle.source_grammar.specs.Phrases.{Tokens}
use Rattle.cyc_parser.specs.Reading.{next_place}
use Rattle.cyc_parser.specs.Reader.{Outcome, next_is}

-- the place of tokens that are made up, past each place in a text
abbrev pub nowhere : ℕ
nowhere = 2 ^ 32

-- tokens that are made up
abbrev pub AreMadeUp : Tokens → Type 0
AreMadeUp [] = Unit {0}
AreMadeUp (t ∷ ts) = (t.at ≡ nowhere) × AreMadeUp ts

-- what was read: these tokens, which are a phrase before any others
pub record Found {A : Type 0} (Is : A → Tokens → Tokens → Type 0) (reader : Tokens → Outcome A) (ts : Tokens) (a : A) (rest : Tokens) : Type 0 where
  pub taken : Tokens
  pub parts : ts ≡ taken ++ rest
  pub is : (more : Tokens) → Is a (taken ++ more) more
  -- with the same next token it is read so, before any others
  pub kept : (t : Token) (others after : Tokens) → rest ≡ t ∷ others → reader (taken ++ t ∷ after) ≡ Ok (a, t ∷ after)

-- where a reader stopped: what stands before is the beginning of a phrase, with the next token it isn't read, before any others
pub record Refused {A : Type 0} (Is : A → Tokens → Tokens → Type 0) (reader : Tokens → Outcome A) (ts : Tokens) (at : ℕ) : Type 0 where
  pub front : Tokens
  pub rest : Tokens
  pub parts : ts ≡ front ++ rest
  pub place : at ≡ next_place rest
  pub tree : A
  pub ending : Tokens
  pub made_up : AreMadeUp ending
  pub is : (more : Tokens) → Is tree (front ++ (ending ++ more)) more
  pub still : (t : Token) (others after : Tokens) → rest ≡ t ∷ others → reader (front ++ t ∷ after) ≡ Err (Parse at)

-- where a phrase would nest too deep: the tokens up to this one, itself among them, begin a phrase, and it isn't read, before any others
pub record Deepened {A : Type 0} (Is : A → Tokens → Tokens → Type 0) (reader : Tokens → Outcome A) (ts : Tokens) (at : ℕ) : Type 0 where
  pub front : Tokens
  pub next : Token
  pub others : Tokens
  pub parts : ts ≡ front ++ next ∷ others
  pub place : at ≡ next.at
  pub tree : A
  pub ending : Tokens
  pub made_up : AreMadeUp ending
  pub is : (more : Tokens) → Is tree (front ++ next ∷ (ending ++ more)) more
  pub still : (after : Tokens) → reader (front ++ next ∷ after) ≡ Err (TooDeep at)

-- some phrase
pub record Phrase {A : Type 0} (Is : A → Tokens → Tokens → Type 0) : Type 0 where
  pub tree : A
  pub tokens : Tokens
  pub made_up : AreMadeUp tokens
  pub is : (more : Tokens) → Is tree (tokens ++ more) more

-- some phrase that begins with this token
pub record PhraseFrom {A : Type 0} (Is : A → Tokens → Tokens → Type 0) (t : Token) : Type 0 where
  pub tree : A
  pub tokens : Tokens
  pub made_up : AreMadeUp tokens
  pub is : (more : Tokens) → Is tree (t ∷ (tokens ++ more)) more

-- the next token, if there is one, is none that would go on
abbrev pub Stops : (TokenKind → Bool) → Tokens → Type 0
Stops goes_on ts = next_is goes_on ts ≡ false

-- read so, or refused as too deep
abbrev pub Passes : {A : Type 0} → Outcome A → A → Tokens → Type 0
Passes outcome a to = (outcome ≡ Ok (a, to)) ⊎ ((at : ℕ) × (outcome ≡ Err (TooDeep at)))

-- A reader is exact on tokens that meet a guard. A tree says with which next tokens its phrase would go on.
pub record Exact {A : Type 0} (Guard : Tokens → Type 0) (Is : Bool → A → Tokens → Tokens → Type 0) (goes_on : A → TokenKind → Bool) (reader : Tokens
    → Outcome A) : Type 0 where
  -- what is read is a phrase within the nesting
  pub sound : (ts : Tokens) (a : A) (rest : Tokens) → Guard ts → reader ts ≡ Ok (a, rest) → Found (Is true) reader ts a rest
  -- a phrase within the nesting is one of any nesting
  pub of_any : (a : A) (from to : Tokens) → Is true a from to → Is false a from to
  -- a phrase within the nesting is read, where it doesn't go on
  pub again : (a : A) (from to : Tokens) → Is true a from to → Stops (goes_on a) to → reader from ≡ Ok (a, to)
  -- no phrase is refused but as too deep
  pub never : (a : A) (from to : Tokens) → Is false a from to → Stops (goes_on a) to → Passes (reader from) a to
  pub refused : (ts : Tokens) (at : ℕ) → Guard ts → reader ts ≡ Err (Parse at) → Refused (Is false) reader ts at
  pub deepened : (ts : Tokens) (at : ℕ) → Guard ts → reader ts ≡ Err (TooDeep at) → Deepened (Is false) reader ts at
  -- it never answers that memory ran out
  pub enough : (ts : Tokens) → Guard ts → reader ts ≡ Err Memory → ⊥
  pub some : Phrase (Is false)

-- ---- relations of what readers are made of

-- any tokens
abbrev pub Anything : Tokens → Type 0
Anything ts = Unit {0}

-- nothing goes on
abbrev pub ends : {A : Type 0} → A → TokenKind → Bool
ends a k = false

-- the same tokens go on for every tree
abbrev pub always : {A : Type 0} → (TokenKind → Bool) → A → TokenKind → Bool
always goes_on a k = goes_on k

abbrev pub IsToken : (TokenKind → Bool) → Bool → Token → Tokens → Tokens → Type 0
IsToken test b t from to = (from ≡ t ∷ to) × (test t.kind ≡ true)

abbrev pub IsDone : {A : Type 0} → A → Bool → A → Tokens → Tokens → Type 0
IsDone x b y from to = (y ≡ x) × (from ≡ to)

-- phrases of any nesting, where none nests
abbrev pub Whole : {A : Type 0} → (A → Tokens → Tokens → Type 0) → Bool → A → Tokens → Tokens → Type 0
Whole Is b = Is

-- within a nesting, or any
abbrev pub Within : Bool → (most nesting : ℕ) → Type 0
Within true most nesting = nesting ≤ most
Within false most nesting = Unit {0}

-- a phrase, and then one that depends on its tree
abbrev pub Then : {A B : Type 0} → (Bool → A → Tokens → Tokens → Type 0) → (A → Bool → B → Tokens → Tokens → Type 0) → Bool → B → Tokens → Tokens → Type 0
Then First Second b c from to = (a : _) × (mid : Tokens) × First b a from mid × Second a b c mid to

abbrev pub Either : {A : Type 0} → (Bool → A → Tokens → Tokens → Type 0) → (Bool → A → Tokens → Tokens → Type 0) → Bool → A → Tokens → Tokens → Type 0
Either First Second b a from to = First b a from to ⊎ Second b a from to

-- a phrase, and the place where it begins
abbrev pub IsPlaced : {A : Type 0} → (Bool → A → Tokens → Tokens → Type 0) → Bool → ℕ × A → Tokens → Tokens → Type 0
IsPlaced Is b x from to = (x.0 ≡ next_place from) × Is b x.1 from to

-- phrases one after the other
abbrev pub Rows : {A : Type 0} → (Bool → A → Tokens → Tokens → Type 0) → Bool → List A → Tokens → Tokens → Type 0
Rows Is b [] from to = from ≡ to
Rows Is b (x ∷ xs) from to = (mid : Tokens) × Is b x from mid × Rows Is b xs mid to
