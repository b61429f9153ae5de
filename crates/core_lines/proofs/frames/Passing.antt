-- A frame shows its activation where its slots change; and what stands at a place.
use Rattle.std.specs.Prelude.{nat_eq, ◌||◌, if◌then◌else◌}
use Rattle.std.proofs.Common.{◌≡◌, ℕ, ◌+◌, ◌*◌, ◌<◌, ⊎_elim, inl, inr, Bool, true, false, List, [], ◌∷◌, ◌++◌, refl, sym, ap, subst, ◌∙◌, arith}
use Rattle.std.proofs.lemmas.Bool.{ne_eqb, eq-eqb}
use Rattle.core_meaning.specs.Memory.{Content, Memory}
use Rattle.core_meaning.specs.Steps.{set_temp, with_temp}
use Rattle.core_lines.specs.declared.line.Line.{Line}
use Rattle.core_lines.specs.Machines.{Machine}
use Rattle.core_lines.specs.Lines.{code_length}
use Rattle.core_lines.specs.Frames.{slot_of}
use Rattle.core_lines.specs.Lies.{Maps, Activation, SlotsLie, Stacked}
use Rattle.core_lines.specs.Homes.{saved_slot, flag_at}
use Rattle.core_lines.proofs.homes.Saving.{saved_on}
use Rattle.core_lines.proofs.memory.Relations.{World, IsInOrder, Has, Waiting, Covers, Follows, keeping, back_of, FrameShows, At, kept_in}
use Rattle.core_lines.proofs.memory.Fitting.{with_slot, set_slot}
use Rattle.core_lines.proofs.memory.Access.{first_lines, other_lines}

pub has_first : (w : World) (place : ℕ) (first second : List Line) → Has w place (first ++ second) → Has w place first
has_first w place first second has = first_lines w.areas w.code w.places place first second has

pub has_second : (w : World) (place : ℕ) (first second : List Line) → Has w place (first ++ second) → Has w (place + code_length first) second
has_second w place first second has = other_lines w.areas w.code w.places place first second has

-- a frame shows its activation, whatever is in the slots for arguments
pub frame_on : (w : World) (m : Maps) (x : Waiting) (back : ℕ) (a : Activation) (k : ℕ) (v : Content) → k < x.fn.passed → FrameShows w m x back a
    → FrameShows w m x back (with_slot (1 + k) v a)
frame_on w m x back a k v within f = record {
  function = f.function;
  bytes = f.bytes;
  size = f.size;
  is = f.is;
  back_place = f.back_place;
  returns_to = ap (λ c. if c then v else a.slots 0) (ne_eqb 0 (1 + k) (λ e. omega (arith, e))) ∙ f.returns_to;
  temps = λ t less kept.
      let other : nat_eq (1 + x.fn.passed + t) (1 + k) ≡ false = ne_eqb (1 + x.fn.passed + t) (1 + k) (λ e. omega (arith, e, within)) in
      ap (λ c. if c then v else a.slots (1 + x.fn.passed + t)) other ∙ f.temps t less kept;
  blocks = f.blocks;
  own = f.own;
  own_high = f.own_high;
  own_based = f.own_based;
  saved = saved_on (saved_slot x.fn) (kept_in x.phase x.fn) (set_slot (1 + k) v a.slots) a.slots a.callers
      (λ j le. ap (λ c. if c then v else a.slots j) (ne_eqb j (1 + k) (λ e. omega (arith, e, le, within)))) f.saved;
  changed = f.changed;
  homes = f.homes;
}

-- with fewer temporaries whose words the slots show
pub frame_fewer : (w : World) (m : Maps) (x : Waiting) (back : ℕ) (a : Activation) (flags : List Bool) → Covers x.kept flags → FrameShows w m x back a
    → FrameShows w m (keeping flags x) back a
frame_fewer w m x back a flags covers f = record {
  function = f.function;
  bytes = f.bytes;
  size = f.size;
  is = f.is;
  back_place = f.back_place;
  returns_to = f.returns_to;
  temps = λ t less kept. f.temps t less (covers t kept);
  blocks = f.blocks;
  own = f.own;
  own_high = f.own_high;
  own_based = f.own_based;
  saved = f.saved;
  changed = f.changed;
  homes = f.homes;
}

pub fewer_kept : (w : World) (x : Waiting) (outer : List Waiting) (mem : Memory) (place : ℕ) (flags : List Bool) (s : Machine) → Covers x.kept flags
    → At w x outer mem place s → At w (keeping flags x) outer mem place s
fewer_kept w x outer mem place flags s covers a = record {
  maps = a.maps;
  frame = a.frame;
  others = a.others;
  sp = a.sp;
  stands = a.stands;
  shows = frame_fewer w a.maps x (back_of w outer) a.frame flags covers a.shows;
  stack = a.stack;
}

-- one that is saved may be flagged as well as not
pub follows_saved : (keeps : Bool) (ts : List ℕ) (before after : List Bool) → Follows keeps ts before after → Follows true ts before after
follows_saved keeps ts before after follows u kept = ⊎_elim (λ h. inl (h.0, refl)) inr (follows u kept)

-- another one was flagged before
follows_other : (keeps : Bool) (t u : ℕ) (before after : List Bool) → Follows keeps (t ∷ []) before after → flag_at after u ≡ true → nat_eq u t ≡ false
    → flag_at before u ≡ true
follows_other keeps t u before after follows kept other = ⊎_elim
    (λ h. let no : false ≡ true = subst (λ c. (c || false) ≡ true) other h.0 in absurd (cc))
    (λ h. h.1) (follows u kept)

-- one that isn't saved isn't flagged
follows_unsaved : (t u : ℕ) (before after : List Bool) → Follows false (t ∷ []) before after → flag_at after u ≡ true
    → (nat_eq u t ≡ false) × (flag_at before u ≡ true)
follows_unsaved t u before after follows kept = ⊎_elim (λ h. let no : false ≡ true = h.1 in absurd (cc))
    (λ h. (by (nat_eq u t) h.0, h.1)) (follows u kept)
  where
    by : (c : Bool) → (c || false) ≡ false → c ≡ false
    by true e = e
    by false e = refl

-- and with a temporary set, which is saved
pub frame_set : (w : World) (m : Maps) (x : Waiting) (back : ℕ) (a : Activation) (t : ℕ) (v : Content) (after : List Bool) → t < x.fn.temporaries
    → Follows true (t ∷ []) x.kept after → FrameShows w m x back a
    → FrameShows w m (keeping after (record x { config = with_temp t v x.config })) back (with_slot (1 + x.fn.passed + t) v a)
frame_set w m x back a t v after named follows f = record {
  function = f.function;
  bytes = f.bytes;
  size = f.size;
  is = f.is;
  back_place = f.back_place;
  returns_to = ap (λ c. if c then v else a.slots 0) (ne_eqb 0 (1 + x.fn.passed + t) (λ e. omega (arith, e))) ∙ f.returns_to;
  temps = λ u less kept. by u less (follows_other true t u x.kept after follows kept) (nat_eq u t) refl;
  blocks = f.blocks;
  own = f.own;
  own_high = f.own_high;
  own_based = f.own_based;
  saved = saved_on (saved_slot x.fn) (kept_in x.phase x.fn) (set_slot (1 + x.fn.passed + t) v a.slots) a.slots a.callers
      (λ j le. ap (λ c. if c then v else a.slots j) (ne_eqb j (1 + x.fn.passed + t) (λ e. omega (arith, e, le, named)))) f.saved;
  changed = f.changed;
  homes = f.homes;
}
  where
    by : (u : ℕ) → u < x.fn.temporaries → (nat_eq u t ≡ false → flag_at x.kept u ≡ true) → (c : Bool) → nat_eq u t ≡ c
        → set_slot (1 + x.fn.passed + t) v a.slots (1 + x.fn.passed + u) ≡ set_temp t v x.config.temps u
    by u less kept true e =
        let same : u ≡ t = Rattle.std.proofs.lemmas.Bool.eqb-true u t e in
        let slot : nat_eq (1 + x.fn.passed + u) (1 + x.fn.passed + t) ≡ true = eq-eqb (1 + x.fn.passed + u) (1 + x.fn.passed + t)
        (ap (λ q. 1 + x.fn.passed + q) same) in
        ap (λ c. if c then v else a.slots (1 + x.fn.passed + u)) slot ∙ sym (ap (λ c. if c then v else x.config.temps u) e)
    by u less kept false e =
        let slot : nat_eq (1 + x.fn.passed + u) (1 + x.fn.passed + t) ≡ false =
        ne_eqb (1 + x.fn.passed + u) (1 + x.fn.passed + t) (λ q. Rattle.std.proofs.lemmas.Bool.eqb-false u t e (omega (arith, q))) in
        ap (λ c. if c then v else a.slots (1 + x.fn.passed + u)) slot ∙ f.temps u less (kept e) ∙ sym (ap (λ c. if c then v else x.config.temps u) e)

-- and as it is, where a temporary that isn't saved got another value
pub frame_unkept : (w : World) (m : Maps) (x : Waiting) (back : ℕ) (a : Activation) (t : ℕ) (v : Content) (after : List Bool)
    → Follows false (t ∷ []) x.kept after → FrameShows w m x back a → FrameShows w m (keeping after (record x { config = with_temp t v x.config })) back a
frame_unkept w m x back a t v after follows f = record {
  function = f.function;
  bytes = f.bytes;
  size = f.size;
  is = f.is;
  back_place = f.back_place;
  returns_to = f.returns_to;
  temps = λ u less kept.
      let other = follows_unsaved t u x.kept after follows kept in
      f.temps u less other.1 ∙ sym (ap (λ c. if c then v else x.config.temps u) other.0);
  blocks = f.blocks;
  own = f.own;
  own_high = f.own_high;
  own_based = f.own_based;
  saved = f.saved;
  changed = f.changed;
  homes = f.homes;
}

module _ (w : World) (order : IsInOrder w) (x : Waiting) (outer : List Waiting) (mem : Memory) where
  -- a temporary's slot
  pub temp_lies : (m : Maps) (back : ℕ) (a : Activation) (fs : List Activation) (sp t : ℕ) → t < x.fn.temporaries
      → flag_at x.kept t ≡ true → FrameShows w m x back a → Stacked w.areas sp (a ∷ fs)
      → SlotsLie (a ∷ fs) 0 (slot_of x.fn.passed t) (sp + 4 * slot_of x.fn.passed t) 4 (x.config.temps t)
  temp_lies m back a fs sp t less kept f stacked =
      let size = f.size in
      record {
        within = omega (arith, size, less);
        there = ap (λ q. q + 4 * slot_of x.fn.passed t) (sym stacked.0.there);
        wide = refl;
        value = f.temps t less kept;
      }
