-- Bytes that no refusal applies to are an image, and an image's bytes give its parts.
use Rattle.std.proofs.Common.{◌≡◌, ◌≢◌, ℕ, ◌+◌, ◌*◌, ◌/◌, ◌%◌, ◌^◌, ◌<◌, ◌≤◌, ◌⊎◌, List, [], ◌∷◌, ◌++◌, length, take, drop, get_or, sym, refl, ap, append_assoc}
use Rattle.std.proofs.Common.{subst, ◌∙◌, arith, inl, inr, ⊎_elim, add-zero}
use Rattle.std.proofs.lemmas.Bool.{cases_lt}
use Rattle.std.proofs.lemmas.List.{take-append-drop, get_or-drop, drop-drop, length-append, length-drop, length-take}
use Rattle.std.proofs.Math.Seq.{take-append_seam, drop-append_seam}
use Rattle.cyc_image.specs.Format.{Contents, Fits, IsOfVersion, IsImage, IsShort, IsPastLimit, HasBadEntry, First, Second, magic, u32_bytes, field, laid_out}
use Rattle.cyc_image.specs.Format.{parts_of, header_of, stack_of, limit_of, entry_field, code_field, data_field, pages_field, stack_field, version_field}
use Rattle.cyc_image.specs.Format.{code_limit, data_limit, page_limit, stack_page_limit, first_stack_pages, first_block_limit, second_block_limit}
use Rattle.cyc_image.specs.Refusal.{IsAccepted, RefusedAs}
use Rattle.cyc_image.specs.declared.fault.ImageFault.{ImageFault}
use Rattle.cyc_image.specs.declared.fault.ImageFault.TheVariants.{Short, Magic, Version, Limit, Entry, Trailing, Memory}

-- four bytes as the bytes of their number
number_bytes : (a b c d : ℕ) (rest : List ℕ) → a < 256 → b < 256 → c < 256 → d < 256
    → (a ∷ b ∷ c ∷ d ∷ rest) ≡ u32_bytes (a + b * 2 ^ 8 + c * 2 ^ 16 + d * 2 ^ 24) ++ rest
number_bytes a b c d rest ha hb hc hd =
    let e0 : (a + b * 2 ^ 8 + c * 2 ^ 16 + d * 2 ^ 24) % 2 ^ 8 ≡ a = omega arith in
    let e1 : (a + b * 2 ^ 8 + c * 2 ^ 16 + d * 2 ^ 24) / 2 ^ 8 % 2 ^ 8 ≡ b = omega arith in
    let e2 : (a + b * 2 ^ 8 + c * 2 ^ 16 + d * 2 ^ 24) / 2 ^ 16 % 2 ^ 8 ≡ c = omega arith in
    let e3 : (a + b * 2 ^ 8 + c * 2 ^ 16 + d * 2 ^ 24) / 2 ^ 24 ≡ d = omega arith in
    rw (e0, e1, e2, e3) refl

-- a number's bytes give the number back
number_back : (n : ℕ) → n % 2 ^ 8 + n / 2 ^ 8 % 2 ^ 8 * 2 ^ 8 + n / 2 ^ 16 % 2 ^ 8 * 2 ^ 16 + n / 2 ^ 24 * 2 ^ 24 ≡ n
number_back n = omega arith

-- the first four bytes, as those of their number
first_word : (xs : List ℕ) → 4 ≤ length xs → ((i : ℕ) → get_or xs i 0 < 256)
    → xs ≡ u32_bytes (field xs 0) ++ drop 4 xs
first_word [] h bytes = absurd (omega arith)
first_word (a ∷ []) h bytes = absurd (omega arith)
first_word (a ∷ b ∷ []) h bytes = absurd (omega arith)
first_word (a ∷ b ∷ c ∷ []) h bytes = absurd (omega arith)
first_word (a ∷ b ∷ c ∷ d ∷ rest) h bytes = number_bytes a b c d rest (bytes 0) (bytes 1) (bytes 2) (bytes 3)

-- the bytes from an offset on begin with those of the number there
word_at : (xs : List ℕ) (at next : ℕ) → next ≡ at + 4 → next ≤ length xs → ((i : ℕ) → get_or xs i 0 < 256)
    → drop at xs ≡ u32_bytes (field xs at) ++ drop next xs
word_at xs at next e h small =
    let room : 4 ≤ length (drop at xs) = omega (arith, length-drop at xs) in
    let below : (i : ℕ) → get_or (drop at xs) i 0 < 256 = λ i. rw (get_or-drop at xs i 0) (small (at + i)) in
    let word = first_word (drop at xs) room below in
    let same : field (drop at xs) 0 ≡ field xs at = rw (
      get_or-drop at xs 0 0,
      get_or-drop at xs 1 0,
      get_or-drop at xs 2 0,
      get_or-drop at xs 3 0,
      add-zero,
    ) refl in
    let rest : drop 4 (drop at xs) ≡ drop next xs = drop-drop 4 at xs ∙ ap (λ n. drop n xs) (sym e) in
    word ∙ ap (λ n. u32_bytes n ++ drop 4 (drop at xs)) same ∙ ap (λ r. u32_bytes (field xs at) ++ r) rest

-- a test on numbers that does not fail holds
at_most : (m n : ℕ) → ¬ (m < n) → n ≤ m
at_most m n h = ⊎_elim (λ lt. absurd (h lt)) (λ le. le) (cases_lt m n)

-- the same for an equation
stands : (m n : ℕ) → ¬ (m ≢ n) → m ≡ n
stands m n h =
    let low : n ≤ m = at_most m n (λ lt. h (omega arith)) in
    let high : m ≤ n = at_most n m (λ lt. h (omega arith)) in
    omega arith

-- what is not 0 is above it
above_none : (n : ℕ) → ¬ (n ≡ 0) → 0 < n
above_none n h = ⊎_elim (λ lt. lt) (λ le. absurd (h (omega arith))) (cases_lt 0 n)

-- what is not at least m is below it
below : (m n : ℕ) → ¬ (m ≤ n) → n < m
below m n h = ⊎_elim (λ lt. lt) (λ le. absurd (h le)) (cases_lt n m)

-- what no refusal applies to is as long as its header says
whole_length : (bytes : List ℕ) → IsAccepted bytes → length bytes ≡ header_of bytes + code_field bytes + data_field bytes
whole_length bytes ok =
    let low = at_most (length bytes) (header_of bytes + code_field bytes + data_field bytes) (λ h. ok.whole (inr h)) in
    let high = at_most (header_of bytes + code_field bytes + data_field bytes) (length bytes) ok.ended in
    omega arith

-- its code is as long
code_length : (bytes : List ℕ) → IsAccepted bytes → length (take (code_field bytes) (drop (header_of bytes) bytes)) ≡ code_field bytes
code_length bytes ok =
    let whole = whole_length bytes ok in
    omega (arith, length-take (code_field bytes) (drop (header_of bytes) bytes), length-drop (header_of bytes) bytes)

-- and so is its data
data_length : (bytes : List ℕ) → IsAccepted bytes → length (drop (header_of bytes + code_field bytes) bytes) ≡ data_field bytes
data_length bytes ok =
    let whole = whole_length bytes ok in
    omega (arith, length-drop (header_of bytes + code_field bytes) bytes)

-- and they are within the limits
accepted_fits : (bytes : List ℕ) → IsAccepted bytes → Fits (parts_of bytes)
accepted_fits bytes ok =
    let code = code_length bytes ok in
    let statics = data_length bytes ok in
    let some_code : ¬ (code_field bytes ≡ 0) = λ e. ok.within (inl e) in
    let code_within = at_most code_limit (code_field bytes) (λ h. ok.within (inr (inl h))) in
    let whole_words = stands (code_field bytes % 4) 0 (λ h. ok.within (inr (inr (inl h)))) in
    let data_within = at_most data_limit (data_field bytes) (λ h. ok.within (inr (inr (inr (inl h))))) in
    let some_pages : ¬ (pages_field bytes ≡ 0) = λ e. ok.within (inr (inr (inr (inr (inl e))))) in
    let pages_within = at_most page_limit (pages_field bytes) (λ h. ok.within (inr (inr (inr (inr (inr (inl h))))))) in
    let some_stack : ¬ (stack_of bytes ≡ 0) = λ e. ok.within (inr (inr (inr (inr (inr (inr (inl e))))))) in
    let stack_within = at_most stack_page_limit (stack_of bytes) (λ h. ok.within (inr (inr (inr (inr (inr (inr (inr h)))))))) in
    let entry_aligned = stands (entry_field bytes % 4) 0 (λ h. ok.good_entry (inl h)) in
    let entry_within : ¬ (code_field bytes ≤ entry_field bytes) = λ h. ok.good_entry (inr h) in
    record {
      some_code = above_none _ (rw code some_code);
      code_within = rw code code_within;
      whole_words = rw code whole_words;
      data_within = rw statics data_within;
      some_pages = above_none _ some_pages;
      pages_within = pages_within;
      some_stack = above_none _ some_stack;
      stack_within = stack_within;
      entry_aligned = entry_aligned;
      entry_within = rw code (below _ _ entry_within);
    }

-- an accepted version is 1 or 2
either_version : (version : ℕ) → ¬ ((version ≢ 1) × (version ≢ 2)) → (version ≡ 1) ⊎ (version ≡ 2)
either_version version h = elim (cases_lt version 2) [
  | inl lt ↦ inl (stands version 1 (λ other. h (other, λ e. absurd (omega arith))))
  | inr le ↦ inr (stands version 2 (λ other. h ((λ e. absurd (omega arith)), other)))
]

-- accepted bytes are of a version
pub accepted_version : (bytes : List ℕ) → IsAccepted bytes → IsOfVersion (parts_of bytes)
accepted_version bytes ok = elim (either_version (version_field bytes) ok.same_version) [
  | inl one ↦ inl ((rw one refl), (rw one refl))
  | inr two ↦ inr (rw two refl)
]

-- the parts of bytes whose header is so long, with such a stack and such a limit
abbrev parts_at : (bytes : List ℕ) (header stack limit : ℕ) → Contents
parts_at bytes header stack limit = record {
  entry = entry_field bytes;
  code = take (code_field bytes) (drop header bytes);
  statics = drop (header + code_field bytes) bytes;
  pages = pages_field bytes;
  stack_pages = stack;
  block_limit = limit;
}

parts_of-at : (bytes : List ℕ) (header stack limit : ℕ) → header_of bytes ≡ header → stack_of bytes ≡ stack → limit_of bytes ≡ limit
    → parts_of bytes ≡ parts_at bytes header stack limit
parts_of-at bytes header stack limit a b c = rw (a, b, c) refl

-- accepted bytes are laid out as their parts are
accepted_layout : (bytes : List ℕ) → ((i : ℕ) → get_or bytes i 0 < 256) → IsAccepted bytes → (version stack limit : ℕ) (more : List ℕ)
    → version_field bytes ≡ version → drop 24 bytes ≡ more ++ drop (header_of bytes) bytes
    → bytes ≡ laid_out version more (parts_at bytes (header_of bytes) stack limit)
accepted_layout bytes small ok version stack limit more is_version e24 =
    let whole = whole_length bytes ok in
    let long : 24 ≤ length bytes = at_most (length bytes) 24 (λ h. ok.whole (inl h)) in
    let code = take (code_field bytes) (drop (header_of bytes) bytes) in
    let statics = drop (header_of bytes + code_field bytes) bytes in
    let c_is = sym (code_length bytes ok) in
    let d_is = sym (data_length bytes ok) in
    let e4 : drop 4 bytes ≡ u32_bytes version ++ drop 8 bytes =
    word_at bytes 4 8 refl (omega arith) small ∙ ap (λ n. u32_bytes n ++ drop 8 bytes) is_version in
    let e8 = word_at bytes 8 12 refl (omega arith) small in
    let e12 : drop 12 bytes ≡ u32_bytes (length code) ++ drop 16 bytes =
    word_at bytes 12 16 refl (omega arith) small ∙ ap (λ n. u32_bytes n ++ drop 16 bytes) c_is in
    let e16 : drop 16 bytes ≡ u32_bytes (length statics) ++ drop 20 bytes =
    word_at bytes 16 20 refl (omega arith) small ∙ ap (λ n. u32_bytes n ++ drop 20 bytes) d_is in
    let e20 = word_at bytes 20 24 refl (omega arith) small in
    let rest : drop (header_of bytes) bytes ≡ code ++ statics =
    sym (take-append-drop (code_field bytes) (drop (header_of bytes) bytes)) ∙ ap (λ r. code ++ r) (drop-drop (code_field bytes) (header_of bytes) bytes) in
    let from24 : drop 24 bytes ≡ (more ++ code) ++ statics = e24 ∙ ap (λ r. more ++ r) rest ∙ sym (append_assoc more code statics) in
    let from20 = e20 ∙ ap (λ r. u32_bytes (pages_field bytes) ++ r) from24 in
    let from16 = e16 ∙ ap (λ r. u32_bytes (length statics) ++ r) from20 in
    let from12 = e12 ∙ ap (λ r. u32_bytes (length code) ++ r) from16 in
    let from8 = e8 ∙ ap (λ r. u32_bytes (entry_field bytes) ++ r) from12 in
    let from4 = e4 ∙ ap (λ r. u32_bytes version ++ r) from8 in
    sym (take-append-drop 4 bytes) ∙ ap (λ m. m ++ drop 4 bytes) ok.same_magic ∙ ap (λ r. magic ++ r) from4

-- what no refusal applies to is an image: of version 1
accepted_first : (bytes : List ℕ) → ((i : ℕ) → get_or bytes i 0 < 256) → IsAccepted bytes → version_field bytes ≡ 1 → IsImage bytes (parts_of bytes)
accepted_first bytes small ok one =
    let header : header_of bytes ≡ 24 = rw one refl in
    let stack : stack_of bytes ≡ first_stack_pages = rw one refl in
    let limit : limit_of bytes ≡ first_block_limit = rw one refl in
    let laid = accepted_layout bytes small ok 1 (stack_of bytes) (limit_of bytes) [] one (ap (λ n. drop n bytes) (sym header)) in
    First laid stack limit (accepted_fits bytes ok)

-- and of version 2
accepted_second : (bytes : List ℕ) → ((i : ℕ) → get_or bytes i 0 < 256) → IsAccepted bytes → version_field bytes ≡ 2 → IsImage bytes (parts_of bytes)
accepted_second bytes small ok two =
    let header : header_of bytes ≡ 28 = rw two refl in
    let stack : stack_of bytes ≡ stack_field bytes = rw two refl in
    let limit : limit_of bytes ≡ second_block_limit = rw two refl in
    let whole = whole_length bytes ok in
    let e24 : drop 24 bytes ≡ u32_bytes (stack_field bytes) ++ drop 28 bytes = word_at bytes 24 28 refl (omega arith) small in
    let more : drop 24 bytes ≡ u32_bytes (stack_of bytes) ++ drop (header_of bytes) bytes =
    e24 ∙ ap (λ n. u32_bytes n ++ drop 28 bytes) (sym stack) ∙ ap (λ n. u32_bytes (stack_of bytes) ++ drop n bytes) (sym header) in
    let laid = accepted_layout bytes small ok 2 (stack_of bytes) (limit_of bytes) (u32_bytes (stack_of bytes)) two more in
    Second laid limit (accepted_fits bytes ok)

-- of either
pub accepted_image : (bytes : List ℕ) → ((i : ℕ) → get_or bytes i 0 < 256) → IsAccepted bytes → IsImage bytes (parts_of bytes)
accepted_image bytes small ok =
    ⊎_elim (accepted_first bytes small ok) (accepted_second bytes small ok) (either_version (version_field bytes) ok.same_version)

-- parts by their fields
abbrev parts_with : ℕ → List ℕ → List ℕ → ℕ → ℕ → ℕ → Contents
parts_with entry code statics pages stack limit =
    record { entry = entry; code = code; statics = statics; pages = pages; stack_pages = stack; block_limit = limit }

-- equal fields make equal parts
same_parts : {entry entry' pages pages' stack stack' limit limit' : ℕ} {code code' statics statics' : List ℕ} → entry ≡ entry' → code ≡ code'
    → statics ≡ statics' → pages ≡ pages' → stack ≡ stack' → limit ≡ limit'
    → parts_with entry code statics pages stack limit ≡ parts_with entry' code' statics' pages' stack' limit'
same_parts a b c d e f = rw (a, b, c, d, e, f) refl

-- the bytes laid out for some parts in version 1 give those parts
first_parts : (parts : Contents) → parts.stack_pages ≡ first_stack_pages → parts.block_limit ≡ first_block_limit → parts ≡ parts_of (laid_out 1 [] parts)
first_parts parts stack limit =
    let laid = laid_out 1 [] parts in
    let size : length parts.code ≡ code_field laid = sym (number_back (length parts.code)) in
    let cut : parts.statics ≡ drop (24 + length parts.code) laid = sym (drop-append_seam parts.code parts.statics) ∙ drop-drop (length parts.code) 24 laid in
    same_parts
    (sym (number_back parts.entry))
    (sym (take-append_seam parts.code parts.statics) ∙ ap (λ n. take n (parts.code ++ parts.statics)) size)
    (cut ∙ ap (λ n. drop (24 + n) laid) size)
    (sym (number_back parts.pages))
    stack
    limit

-- and in version 2
second_parts : (parts : Contents) → parts.block_limit ≡ second_block_limit → parts ≡ parts_of (laid_out 2 (u32_bytes parts.stack_pages) parts)
second_parts parts limit =
    let laid = laid_out 2 (u32_bytes parts.stack_pages) parts in
    let size : length parts.code ≡ code_field laid = sym (number_back (length parts.code)) in
    let cut : parts.statics ≡ drop (28 + length parts.code) laid = sym (drop-append_seam parts.code parts.statics) ∙ drop-drop (length parts.code) 28 laid in
    same_parts
    (sym (number_back parts.entry))
    (sym (take-append_seam parts.code parts.statics) ∙ ap (λ n. take n (parts.code ++ parts.statics)) size)
    (cut ∙ ap (λ n. drop (28 + n) laid) size)
    (sym (number_back parts.pages))
    (sym (number_back parts.stack_pages))
    limit

-- an image's bytes give its parts
pub image_parts : (bytes : List ℕ) (parts : Contents) → IsImage bytes parts → parts ≡ parts_of bytes
image_parts bytes parts (First laid stack limit fits) = first_parts parts stack limit ∙ ap parts_of (sym laid)
image_parts bytes parts (Second laid limit fits) = second_parts parts limit ∙ ap parts_of (sym laid)

-- an image has one text, and its limit on blocks tells the version
pub image_text : (bytes other : List ℕ) (parts : Contents) → IsImage bytes parts → IsImage other parts → bytes ≡ other
image_text bytes other parts (First laid stack limit fits) (First also _ _ _) = laid ∙ sym also
image_text bytes other parts (First laid stack limit fits) (Second _ far _) = absurd (omega (arith, limit, far))
image_text bytes other parts (Second laid limit fits) (First _ _ near _) = absurd (omega (arith, limit, near))
image_text bytes other parts (Second laid limit fits) (Second also _ _) = laid ∙ sym also

-- what the header says where bytes have such parts
record Tells (bytes : List ℕ) (parts : Contents) : Type 0 where
  version : ¬ ((version_field bytes ≢ 1) × (version_field bytes ≢ 2))
  same_magic : take 4 bytes ≡ magic
  entry : entry_field bytes ≡ parts.entry
  code : code_field bytes ≡ length parts.code
  statics : data_field bytes ≡ length parts.statics
  pages : pages_field bytes ≡ parts.pages
  stack : stack_of bytes ≡ parts.stack_pages
  whole : length bytes ≡ header_of bytes + length parts.code + length parts.statics
  long : 24 ≤ length bytes

first_tells : (parts : Contents) → parts.stack_pages ≡ first_stack_pages → Tells (laid_out 1 [] parts) parts
first_tells parts stack = record {
  version = λ h. h.0 refl;
  same_magic = refl;
  entry = number_back parts.entry;
  code = number_back (length parts.code);
  statics = number_back (length parts.statics);
  pages = number_back parts.pages;
  stack = sym stack;
  whole = omega (arith, length-append parts.code parts.statics);
  long = omega arith;
}

second_tells : (parts : Contents) → Tells (laid_out 2 (u32_bytes parts.stack_pages) parts) parts
second_tells parts = record {
  version = λ h. h.1 refl;
  same_magic = refl;
  entry = number_back parts.entry;
  code = number_back (length parts.code);
  statics = number_back (length parts.statics);
  pages = number_back parts.pages;
  stack = number_back parts.stack_pages;
  whole = omega (arith, length-append parts.code parts.statics);
  long = omega arith;
}

fits_within : (bytes : List ℕ) (parts : Contents) → Tells bytes parts → Fits parts → IsPastLimit bytes → ⊥
fits_within bytes parts t f (inl h) = omega (arith, t.code, f.some_code, h)
fits_within bytes parts t f (inr (inl h)) = omega (arith, t.code, f.code_within, h)
fits_within bytes parts t f (inr (inr (inl h))) = h (ap (λ n. n % 4) t.code ∙ f.whole_words)
fits_within bytes parts t f (inr (inr (inr (inl h)))) = omega (arith, t.statics, f.data_within, h)
fits_within bytes parts t f (inr (inr (inr (inr (inl h))))) = omega (arith, t.pages, f.some_pages, h)
fits_within bytes parts t f (inr (inr (inr (inr (inr (inl h)))))) = omega (arith, t.pages, f.pages_within, h)
fits_within bytes parts t f (inr (inr (inr (inr (inr (inr (inl h))))))) = omega (arith, t.stack, f.some_stack, h)
fits_within bytes parts t f (inr (inr (inr (inr (inr (inr (inr h))))))) = omega (arith, t.stack, f.stack_within, h)

fits_entry : (bytes : List ℕ) (parts : Contents) → Tells bytes parts → Fits parts → HasBadEntry bytes → ⊥
fits_entry bytes parts t f (inl h) = h (ap (λ n. n % 4) t.entry ∙ f.entry_aligned)
fits_entry bytes parts t f (inr h) = omega (arith, t.entry, t.code, f.entry_within, h)

fits_whole : (bytes : List ℕ) (parts : Contents) → Tells bytes parts → IsShort bytes → ⊥
fits_whole bytes parts t (inl h) = omega (arith, t.long, h)
fits_whole bytes parts t (inr h) = omega (arith, t.whole, t.code, t.statics, h)

-- no refusal applies to bytes whose header tells of parts within the limits
fits_unrefused : (bytes : List ℕ) (parts : Contents) → Tells bytes parts → Fits parts → (fault : ImageFault) → RefusedAs fault bytes → ⊥
fits_unrefused bytes parts t f Short h = fits_whole bytes parts t h
fits_unrefused bytes parts t f Magic h = h.1 t.same_magic
fits_unrefused bytes parts t f Version h = t.version h.2
fits_unrefused bytes parts t f Limit h = fits_within bytes parts t f h.3
fits_unrefused bytes parts t f Entry h = fits_entry bytes parts t f h.4
fits_unrefused bytes parts t f Trailing h = omega (arith, t.whole, t.code, t.statics, h.5)
fits_unrefused bytes parts t f Memory h = h

-- an image isn't refused
pub image_unrefused : (bytes : List ℕ) (parts : Contents) → IsImage bytes parts → (fault : ImageFault) → RefusedAs fault bytes → ⊥
image_unrefused bytes parts (First laid stack _ fits) =
    fits_unrefused bytes parts (subst (λ b. Tells b parts) (sym laid) (first_tells parts stack)) fits
image_unrefused bytes parts (Second laid _ fits) = fits_unrefused bytes parts (subst (λ b. Tells b parts) (sym laid) (second_tells parts)) fits
