-- Tokens that are characters, strings or signs.
use Rattle.std.proofs.Common.{◌≡◌, ℕ, ◌+◌, ◌<◌, ◌≤◌, Bool, true, false, cond, eqb, List, [], ◌∷◌, ◌++◌, length, get_or, Option, Some, None, refl, ap, sym, ◌∙◌}
use Rattle.std.proofs.Common.{subst, arith, length-append, append_assoc}
use Rattle.std.proofs.lemmas.Bool.{cond_both, cond-true, cond-false, eqb-true, eq-eqb, false_from_ne_true, true≢false}
use Rattle.cyc_lexer.specs.Bytes.{is_space, is_letter, is_digit}
use Rattle.cyc_lexer.specs.Spelling.{sign_text, IsCharacter, IsText, Spells, character_at}
use Rattle.cyc_lexer.specs.Lexing.{BeginsComment, IsLongest, IsToken}
use Rattle.cyc_lexer.specs.Reading.{signs, text_from, find_sign, region_at, closed_by, quoted_at, text_token, begins_comment, begins_with, sign_at, word_at}
use Rattle.cyc_lexer.specs.Reading.{number_at, token_at}
use Rattle.cyc_lexer.specs.declared.token.TokenKind.{TokenKind}
use Rattle.cyc_lexer.specs.declared.token.TokenKind.TheVariants as kind
use Rattle.cyc_lexer.specs.declared.token.Sign.{Sign}
use Rattle.cyc_lexer.proofs.Fronts.{Cut, Reads, same_fronts}
use Rattle.cyc_lexer.proofs.ReadCharacters.{character_again}
use Rattle.cyc_lexer.proofs.ReadStrings.{character_cut, text_again, text_read}
use Rattle.cyc_lexer.proofs.ReadSigns.{begins_with-front, begins_with-is, SignMeans, FoundSign, sign_read, same_sign, comment_begins, comment_test}
use Rattle.cyc_lexer.proofs.Tables.{sign_list, class, sign_found, sign_class}
use Rattle.cyc_lexer.proofs.FirstBytes.{kind_class, class_here, IsBounded, no_comment_at, token_from}

-- ---- characters

after_front : (front rest : List ℕ) (b : ℕ) → 0 < b → get_or (front ++ rest) (length front) 0 ≡ b → (r : List ℕ) × (rest ≡ b ∷ r)
after_front [] [] b pos e = absurd (omega arith)
after_front [] (x ∷ r) b pos e = (r, ap (λ i. i ∷ r) e)
after_front (x ∷ xs) rest b pos e = after_front xs rest b pos e

at_seam : (front rest : List ℕ) (b : ℕ) → get_or (front ++ b ∷ rest) (length front) 0 ≡ b
at_seam [] rest b = refl
at_seam (x ∷ xs) rest b = at_seam xs rest b

abbrev IsQuoted : TokenKind → List ℕ → Type 0
IsQuoted k s = (byte : ℕ) × (inner : List ℕ) × (k ≡ kind.Character byte) × (s ≡ 39 ∷ inner ++ 39 ∷ []) × IsCharacter 39 inner byte

quoted_of_class : (k : TokenKind) (s : List ℕ) → 3 ≡ kind_class k → Spells k s → IsQuoted k s
quoted_of_class (kind.Keyword k) s e h = absurd (omega (arith, e))
quoted_of_class kind.Identifier s e h = absurd (omega (arith, e))
quoted_of_class (kind.Number n u) s e h = absurd (omega (arith, e))
quoted_of_class kind.Region s e h = absurd (omega (arith, e))
quoted_of_class (kind.Character byte) s e h = (byte, h.0, refl, h.1, h.2)
quoted_of_class kind.Text s e h = absurd (omega (arith, e))
quoted_of_class (kind.Sign k) s e h = absurd (omega (arith, e))

-- what follows the opening byte of a quoted text
inside : (q : ℕ) (bs inner other more : List ℕ) → q ∷ bs ≡ other ++ more → other ≡ q ∷ inner ++ q ∷ [] → bs ≡ inner ++ q ∷ more
inside q bs inner other more e f =
    let whole : q ∷ bs ≡ q ∷ (inner ++ q ∷ []) ++ more = e ∙ ap (λ s. s ++ more) f in
    let tails : bs ≡ (inner ++ q ∷ []) ++ more = cc in
    tails ∙ append_assoc inner (q ∷ []) more

quoted_size : (q : ℕ) (inner other : List ℕ) → other ≡ q ∷ inner ++ q ∷ [] → length other ≡ length inner + 2
quoted_size q inner other f = omega (arith, ap length f, length-append inner (q ∷ []))

abbrev size_in : Option (ℕ × ℕ) → ℕ
size_in None = 0
size_in (Some x) = x.1

quoted_bounded : (bs : List ℕ) (byte n : ℕ) → character_at 39 bs ≡ Some (byte, n) → IsBounded (n + 2) (39 ∷ bs)
quoted_bounded bs byte n h k other more e spelled =
    let found = quoted_of_class k other (class_here k 39 bs other more e spelled) spelled in
    let read : ◌≡◌ {A = Option (ℕ × ℕ)} (Some (byte, n)) (Some (found.0, length found.1)) =
    sym h ∙ ap (character_at 39) (inside 39 bs found.1 other more e found.3) ∙ character_again 39 found.0 found.1 (39 ∷ more) found.4 in
    let size : n ≡ length found.1 = ap size_in read in
    omega (arith, quoted_size 39 found.1 other found.3)

close_quote : (q : ℕ) (bs inner r : List ℕ) → bs ≡ inner ++ q ∷ r → q ∷ bs ≡ (q ∷ inner ++ q ∷ []) ++ r
close_quote q bs inner r e = ap (λ s. q ∷ s) (e ∙ sym (append_assoc inner (q ∷ []) r))

character_token : (bs : List ℕ) (byte n : ℕ) → character_at 39 bs ≡ Some (byte, n) → get_or bs n 0 ≡ 39 → Cut (IsToken (kind.Character byte)) (n + 2) (39 ∷ bs)
character_token bs byte n h closed =
    let w = character_cut 39 bs byte n h in
    let inner = w.front in
    let end = after_front inner w.rest 39 (omega arith) (ap (λ k. get_or (inner ++ w.rest) k 0) w.size ∙ ap (λ s. get_or s n 0) (sym w.is) ∙ closed) in
    let s = 39 ∷ inner ++ 39 ∷ [] in
    let whole = close_quote 39 bs inner end.0 (w.is ∙ ap (λ t. inner ++ t) end.1) in
    let size : length s ≡ n + 2 = omega (arith, quoted_size 39 inner s refl, w.size) in
    record {
      front = s;
      rest = end.0;
      is = whole;
      size = size;
      holds = token_from (kind.Character byte) (39 ∷ bs) s end.0 whole (inner, refl, w.holds)
          (subst (λ (m : ℕ). IsBounded m (39 ∷ bs)) (sym size) (quoted_bounded bs byte n h)) (no_comment_at 39 bs (λ e. absurd (omega (arith, e)))) tt;
    }

quoted_token : (bs : List ℕ) (o : Option (ℕ × ℕ)) → character_at 39 bs ≡ o → Reads IsToken (39 ∷ bs) (closed_by o bs)
quoted_token bs None h = tt
quoted_token bs (Some x) h =
    cond_both (eqb (get_or bs x.1 0) 39) (Some (kind.Character x.0, x.1 + 2)) None (Reads IsToken (39 ∷ bs))
    (λ g. character_token bs x.0 x.1 h (eqb-true (get_or bs x.1 0) 39 g)) (λ _. tt)

pub quoted_read : (bs : List ℕ) → Reads IsToken (39 ∷ bs) (quoted_at bs)
quoted_read bs = quoted_token bs (character_at 39 bs) refl

pub quoted_again : (byte : ℕ) (inner s rest : List ℕ) → s ≡ 39 ∷ inner ++ 39 ∷ [] → IsCharacter 39 inner byte
    → token_at (s ++ rest) ≡ Some (kind.Character byte, length s)
quoted_again byte inner s rest is h =
    let t = inner ++ 39 ∷ rest in
    ap (λ u. token_at (u ++ rest)) is
    ∙ ap quoted_at (append_assoc inner (39 ∷ []) rest)
    ∙ ap (λ o. closed_by o t) (character_again 39 byte inner (39 ∷ rest) h)
    ∙ cond-true (eqb (get_or t (length inner) 0) 39) (Some (kind.Character byte, length inner + 2)) None
    (eq-eqb (get_or t (length inner) 0) 39 (at_seam inner rest 39))
    ∙ ap (λ n. Some (kind.Character byte, n)) (sym (quoted_size 39 inner s is))

-- ---- strings

text_of_class : (k : TokenKind) (s : List ℕ) → 4 ≡ kind_class k → Spells k s → (bytes : List ℕ) × IsText s bytes
text_of_class (kind.Keyword k) s e h = absurd (omega (arith, e))
text_of_class kind.Identifier s e h = absurd (omega (arith, e))
text_of_class (kind.Number n u) s e h = absurd (omega (arith, e))
text_of_class kind.Region s e h = absurd (omega (arith, e))
text_of_class (kind.Character byte) s e h = absurd (omega (arith, e))
text_of_class kind.Text s e h = h
text_of_class (kind.Sign k) s e h = absurd (omega (arith, e))

text_bounded : (bs : List ℕ) (n : ℕ) → text_from 0 bs ≡ Some n → IsBounded (n + 1) (34 ∷ bs)
text_bounded bs n h k other more e spelled =
    let found = text_of_class k other (class_here k 34 bs other more e spelled) spelled in
    let inner = found.1.0 in
    let read : Some n ≡ Some (length inner + 1) =
    sym h ∙ ap (text_from 0) (inside 34 bs inner other more e found.1.1) ∙ text_again found.0 inner more found.1.2 in
    let size : n ≡ length inner + 1 = cc in
    omega (arith, quoted_size 34 inner other found.1.1)

string_token : (bs : List ℕ) (o : Option ℕ) → text_from 0 bs ≡ o → Reads IsToken (34 ∷ bs) (text_token o)
string_token bs None h = tt
string_token bs (Some n) h =
    let w = text_read bs n h in
    let s = 34 ∷ w.front in
    let whole = ap (λ t. 34 ∷ t) w.is in
    let size : length s ≡ n + 1 = omega (arith, w.size) in
    record {
      front = s;
      rest = w.rest;
      is = whole;
      size = size;
      holds = token_from kind.Text (34 ∷ bs) s w.rest whole (w.holds.1, (w.holds.0, ap (λ t. 34 ∷ t) w.holds.2, w.holds.3))
          (subst (λ (m : ℕ). IsBounded m (34 ∷ bs)) (sym size) (text_bounded bs n h)) (no_comment_at 34 bs (λ e. absurd (omega (arith, e)))) tt;
    }

pub string_read : (bs : List ℕ) → Reads IsToken (34 ∷ bs) (text_token (text_from 0 bs))
string_read bs = string_token bs (text_from 0 bs) refl

pub string_again : (s bytes rest : List ℕ) → IsText s bytes → token_at (s ++ rest) ≡ Some (kind.Text, length s)
string_again s bytes rest (inner, is, h) =
    ap (λ u. token_at (u ++ rest)) is
    ∙ ap (λ u. text_token (text_from 0 u)) (append_assoc inner (34 ∷ []) rest)
    ∙ ap text_token (text_again bytes inner rest h)
    ∙ ap (λ n. Some (kind.Text, n)) (omega (arith, quoted_size 34 inner s is))

-- ---- signs

sign_of_class : (k : TokenKind) (s : List ℕ) → 5 ≤ kind_class k → Spells k s → (l : Sign) × (k ≡ kind.Sign l) × (s ≡ sign_text l)
sign_of_class (kind.Keyword k) s e h = absurd (omega (arith, e))
sign_of_class kind.Identifier s e h = absurd (omega (arith, e))
sign_of_class (kind.Number n u) s e h = absurd (omega (arith, e))
sign_of_class kind.Region s e h = absurd (omega (arith, e))
sign_of_class (kind.Character byte) s e h = absurd (omega (arith, e))
sign_of_class kind.Text s e h = absurd (omega (arith, e))
sign_of_class (kind.Sign k) s e h = (k, refl, h)

stands_here : (t other more : List ℕ) (l : Sign) → t ≡ other ++ more → other ≡ sign_text l → begins_with (sign_text l) t ≡ true
stands_here t other more l e f = ap (begins_with (sign_text l)) (e ∙ ap (λ s. s ++ more) f) ∙ begins_with-front (sign_text l) more

signs_bounded : (b : ℕ) (bs : List ℕ) → 5 ≤ class b → (x : TokenKind × ℕ) → FoundSign sign_list (b ∷ bs) x → IsBounded x.1 (b ∷ bs)
signs_bounded b bs high x found k other more e spelled =
    let l = sign_of_class k other (omega (arith, high, class_here k b bs other more e spelled)) spelled in
    omega (arith, found.longest l.0 (sign_found l.0) (stands_here (b ∷ bs) other more l.0 e l.2), ap length l.2)

sign_token : (b : ℕ) (bs : List ℕ) → 5 ≤ class b → (BeginsComment (b ∷ bs) → ⊥) → (o : Option (TokenKind × ℕ)) → SignMeans sign_list (b ∷ bs) o
    → Reads IsToken (b ∷ bs) o
sign_token b bs high none None m = tt
sign_token b bs high none (Some x) m =
    let t = b ∷ bs in
    let s = sign_text m.sign in
    let front = begins_with-is s t m.stands in
    let token = token_from (kind.Sign m.sign) t s front.0 front.1 refl
    (subst (λ (n : ℕ). IsBounded n t) m.size (signs_bounded b bs high x m)) none tt in
    record {
      front = s;
      rest = front.0;
      is = front.1;
      size = sym m.size;
      holds = subst (λ (k : TokenKind). IsToken k s front.0) (sym m.kind_is) token;
    }

pub sign_at_read : (b : ℕ) (bs : List ℕ) → 5 ≤ class b → Reads IsToken (b ∷ bs) (sign_at (b ∷ bs))
sign_at_read b bs high =
    let t = b ∷ bs in
    cond_both (begins_comment t) None (find_sign signs t) (Reads IsToken t) (λ _. tt)
    (λ g. sign_token b bs high (λ c. absurd (true≢false (sym (comment_test t c) ∙ g))) (find_sign signs t) (sign_read t))

sign_chosen : (k : Sign) (rest : List ℕ) → IsLongest (sign_text k) rest → (o : Option (TokenKind × ℕ)) → SignMeans sign_list (sign_text k ++ rest) o
    → o ≡ Some (kind.Sign k, length (sign_text k))
sign_chosen k rest longest None m = absurd (m k (sign_found k) (begins_with-front (sign_text k) rest))
sign_chosen k rest longest (Some x) m =
    let t = sign_text k ++ rest in
    let front = begins_with-is (sign_text m.sign) t m.stands in
    let no_less = m.longest k (sign_found k) (begins_with-front (sign_text k) rest) in
    let no_more = longest (kind.Sign m.sign) (sign_text m.sign) front.0 front.1 refl in
    let size : length (sign_text k) ≡ length (sign_text m.sign) = omega (arith, no_less, no_more, m.size) in
    let same_texts = (same_fronts (sign_text k) rest (sign_text m.sign) front.0 front.1 size).0 in
    let which : k ≡ m.sign = same_sign k m.sign same_texts in
    let kinds : x.0 ≡ kind.Sign k = m.kind_is ∙ ap (λ l. kind.Sign l) (sym which) in
    ap (λ l. Some (l, x.1)) kinds ∙ ap (λ n. Some (kind.Sign k, n)) (m.size ∙ sym size)

five : (letter digit back quote double space : Bool)
    → ◌≡◌ {A = ℕ} (cond letter 0 (cond digit 1 (cond back 2 (cond quote 3 (cond double 4 (cond space 6 5)))))) 5 →
    (A : Type 0) (a0 a1 a2 a3 a4 a5 : A) → cond letter a0 (cond digit a1 (cond back a2 (cond quote a3 (cond double a4 a5)))) ≡ a5
five true digit back quote double space h A a0 a1 a2 a3 a4 a5 = absurd (omega arith)
five false true back quote double space h A a0 a1 a2 a3 a4 a5 = absurd (omega arith)
five false false true quote double space h A a0 a1 a2 a3 a4 a5 = absurd (omega arith)
five false false false true double space h A a0 a1 a2 a3 a4 a5 = absurd (omega arith)
five false false false false true space h A a0 a1 a2 a3 a4 a5 = absurd (omega arith)
five false false false false false space h A a0 a1 a2 a3 a4 a5 = refl

other_token : (b : ℕ) (bs : List ℕ) → class b ≡ 5 → token_at (b ∷ bs) ≡ sign_at (b ∷ bs)
other_token b bs h =
    five (is_letter b) (is_digit b) (eqb b 96) (eqb b 39) (eqb b 34) (is_space b) h (Option (TokenKind × ℕ))
    (word_at (b ∷ bs)) (number_at (b ∷ bs)) (region_at bs) (quoted_at bs) (text_token (text_from 0 bs)) (sign_at (b ∷ bs))

sign_front : (k : Sign) (s rest : List ℕ) → s ≡ sign_text k → token_at (s ++ rest) ≡ sign_at (s ++ rest)
sign_front k [] rest is = absurd (omega (arith, (sign_class k).1, ap length is))
sign_front k (b ∷ bs) rest is = other_token b (bs ++ rest) (ap (λ u. class (get_or u 0 0)) is ∙ (sign_class k).0)

pub sign_again : (k : Sign) (s rest : List ℕ) → s ≡ sign_text k → IsLongest s rest → (BeginsComment (s ++ rest) → ⊥)
    → token_at (s ++ rest) ≡ Some (kind.Sign k, length s)
sign_again k s rest is longest none =
    let t = s ++ rest in
    let e = ap (λ u. u ++ rest) is in
    sign_front k s rest is
    ∙ cond-false (begins_comment t) None (find_sign signs t) (false_from_ne_true (begins_comment t) (λ g. none (comment_begins t g)))
    ∙ ap (find_sign signs) e
    ∙ sign_chosen k rest (subst (λ (u : List ℕ). IsLongest u rest) is longest) (find_sign signs (sign_text k ++ rest)) (sign_read (sign_text k ++ rest))
    ∙ ap (λ u. Some (kind.Sign k, length u)) (sym is)
