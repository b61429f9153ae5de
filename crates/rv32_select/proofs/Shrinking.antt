-- Homes of locals in a list, by their numbers, and the locals that take no bytes of a frame.
use Rattle.std.proofs.Common.{◌≡◌, ℕ, zero, suc, ◌+◌, ◌-◌, ◌<◌, Bool, List, [], ◌∷◌, ◌++◌, length, drop, refl, sym, ap, ◌∙◌, arith}
use Rattle.std.specs.Prelude.{if◌then◌else◌, nat_eq}
use Rattle.std.proofs.lemmas.List.{append_assoc}
use Rattle.core_meaning.specs.Core.{Local}
use Rattle.core_lines.specs.declared.line.Line.{Line}
use Rattle.core_lines.specs.Selected.{bytes_of, first_of, rest_of, shrink, shrunk, homes_here, homes_after, offsets_from, end_from, rounded, nth}
use Rattle.rv32_select.specs.Marks.{first_homes}
use Rattle.core_lines.specs.Held.{result_register}
use Rattle.core_lines.specs.Operands.{into_code, keep_code, stored_in, stored_code}
use Rattle.core_lines.specs.Selected.{Surroundings, get_code, put_code, byte_code, read_code, write_code, keep_result}

-- ---- one local

pub bytes_without : (h : ℕ) (l : Local) (n : ℕ) → h ≡ 0 → n ≡ bytes_of l → n ≡ bytes_of (shrink h l)
bytes_without zero l n none e = e
bytes_without (suc h) l n none e = absurd (omega (arith, none))

pub bytes_with : (h : ℕ) (l : Local) → 0 < h → 0 ≡ bytes_of (shrink h l)
bytes_with zero l some = absurd (omega (arith, some))
bytes_with (suc h) l some = omega arith

-- the lines of a load or a store of a local, where it lies in the frame and where it has a home
module _ (keeps : Bool) (u : Surroundings) (t width offset : ℕ) where
  pub got_without : (before loaded after : List Line) (h : ℕ) → h ≡ 0 → loaded ≡ before ++ read_code (result_register t) width 2 offset
      → after ≡ loaded ++ keep_result keeps u t → after ≡ before ++ get_code keeps u h t width offset
  got_without before loaded after zero none l a =
      a ∙ ap (λ lines. lines ++ keep_result keeps u t) l ∙ append_assoc before (read_code (result_register t) width 2 offset) (keep_result keeps u t)
  got_without before loaded after (suc h) none l a = absurd (omega (arith, none))

  pub got_with : (before after : List Line) (home h : ℕ) → home ≡ h → 0 < home → after ≡ before ++ keep_code keeps u.passed home t
      → after ≡ before ++ get_code keeps u h t width offset
  got_with before after home zero is some a = absurd (omega (arith, is, some))
  got_with before after home (suc h) is some a = a ∙ ap (λ r. before ++ keep_code keeps u.passed r t) is

module _ (u : Surroundings) (width offset t : ℕ) where
  pub stored_without : (before loaded after : List Line) (value h : ℕ) → h ≡ 0 → loaded ≡ before ++ stored_code u.passed u.held 6 t
      → value ≡ stored_in u.held 6 t → after ≡ loaded ++ write_code value width 2 offset → after ≡ before ++ put_code u h width offset t
  stored_without before loaded after value zero none l v a =
      a ∙ (λ i. l i ++ write_code (v i) width 2 offset) ∙ append_assoc before (stored_code u.passed u.held 6 t)
      (write_code (stored_in u.held 6 t) width 2 offset)
  stored_without before loaded after value (suc h) none l v a = absurd (omega (arith, none))

  pub stored_with : (before after : List Line) (home h : ℕ) → home ≡ h → 0 < home
      → after ≡ before ++ (if nat_eq width 1 then byte_code u home t else into_code u.passed u.held home t) → after ≡ before ++ put_code u h width offset t
  stored_with before after home zero is some a = absurd (omega (arith, is, some))
  stored_with before after home (suc h) is some a =
      a ∙ ap (λ r. before ++ (if nat_eq width 1 then byte_code u r t else into_code u.passed u.held r t)) is

-- ---- lists of homes

first_drop : (hs : List ℕ) (i : ℕ) → first_of (drop i hs) ≡ nth hs i
first_drop [] zero = refl
first_drop [] (suc i) = refl
first_drop (h ∷ hs) zero = refl
first_drop (h ∷ hs) (suc i) = first_drop hs i

rest_suc : (hs : List ℕ) (i : ℕ) → rest_of (drop i hs) ≡ drop (suc i) hs
rest_suc [] zero = refl
rest_suc [] (suc i) = refl
rest_suc (h ∷ hs) zero = refl
rest_suc (h ∷ hs) (suc i) = rest_suc hs i

pub rest_drop : (hs : List ℕ) (i : ℕ) → rest_of (drop i hs) ≡ drop (i + 1) hs
rest_drop hs i = let e : suc i ≡ i + 1 = omega arith in rest_suc hs i ∙ ap (λ n. drop n hs) e

-- a local, and those behind it
pub shrunk_more : (l : Local) (ls : List Local) (hs : List ℕ) (i : ℕ) → shrunk (l ∷ ls) (drop i hs) ≡ shrink (nth hs i) l ∷ shrunk ls (drop (i + 1) hs)
shrunk_more l ls hs i = let first = first_drop hs i in let rest = rest_drop hs i in λ k. shrink (first k) l ∷ shrunk ls (rest k)

pub shrunk_here : (ls : List Local) (hs : List ℕ) → shrunk ls (homes_here ls hs) ≡ shrunk ls hs
shrunk_here [] hs = refl
shrunk_here (l ∷ ls) hs = ap (λ others. shrink (first_of hs) l ∷ others) (shrunk_here ls (rest_of hs))

pub unshrunk : (ls : List Local) → shrunk ls [] ≡ ls
unshrunk [] = refl
unshrunk (l ∷ ls) = ap (λ others. l ∷ others) (unshrunk ls)

pub after_drop : (ls : List Local) (hs : List ℕ) (i : ℕ) → homes_after ls (drop i hs) ≡ drop (i + length ls) hs
after_drop [] hs i = let e : i ≡ i + 0 = omega arith in ap (λ n. drop n hs) e
after_drop (l ∷ ls) hs i =
    let e : suc i + length ls ≡ i + length (l ∷ ls) = omega arith in
    ap (λ rest. homes_after ls rest) (rest_suc hs i) ∙ after_drop ls hs (suc i) ∙ ap (λ n. drop n hs) e

-- ---- loops over locals

pub end_more : (at next i : ℕ) (l : Local) (rest here : List Local) (hs : List ℕ) → here ≡ l ∷ rest → next ≡ rounded at + bytes_of (shrink (nth hs i) l)
    → end_from next (shrunk rest (drop (i + 1) hs)) ≡ end_from at (shrunk here (drop i hs))
end_more at next i l rest here hs is e =
    ap (λ n. end_from n (shrunk rest (drop (i + 1) hs))) e ∙ ap (λ ls. end_from at ls) (sym (shrunk_more l rest hs i)) ∙
    ap (λ ls. end_from at (shrunk ls (drop i hs))) (sym is)

pub offsets_more : (at next i : ℕ) (l : Local) (rest here : List Local) (hs : List ℕ) → here ≡ l ∷ rest → next ≡ rounded at + bytes_of (shrink (nth hs i) l)
    → rounded at ∷ offsets_from next (shrunk rest (drop (i + 1) hs)) ≡ offsets_from at (shrunk here (drop i hs))
offsets_more at next i l rest here hs is e =
    ap (λ n. rounded at ∷ offsets_from n (shrunk rest (drop (i + 1) hs))) e ∙ ap (λ ls. offsets_from at ls) (sym (shrunk_more l rest hs i)) ∙
    ap (λ ls. offsets_from at (shrunk ls (drop i hs))) (sym is)

-- ---- the first homes of a list

pub first_are : (ls : List Local) (hs : List ℕ) → first_homes (length ls) hs ≡ homes_here ls hs
first_are [] hs = refl
first_are (l ∷ ls) hs = ap (λ others. first_of hs ∷ others) (first_are ls (rest_of hs))

pub first_more : (hs : List ℕ) (i n : ℕ) → i < n → first_homes (n - i) (drop i hs) ≡ nth hs i ∷ first_homes (n - (i + 1)) (drop (i + 1) hs)
first_more hs i n less =
    let e : n - i ≡ suc (n - (i + 1)) = omega arith in
    let first = first_drop hs i in
    let rest = rest_drop hs i in
    ap (λ k. first_homes k (drop i hs)) e ∙ (λ k. first k ∷ first_homes (n - (i + 1)) (rest k))
