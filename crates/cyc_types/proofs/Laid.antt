-- A type is laid part by part: what is found, with what is still to come, stays the same.
use Rattle.std.proofs.Common.{◌≡◌, ℕ, ◌+◌, ◌-◌, ◌≤◌, true, false, List, [], ◌∷◌, ◌++◌, refl, sym, ap, subst, ◌∙◌, arith, cond, map}
use Rattle.std.proofs.lemmas.List.{append_assoc, append-nil}
use Rattle.std.specs.Prelude.{None, Option, Some}
use Rattle.source_meaning.specs.Sizes.{Extent, rounded_up}
use Rattle.source_typing.specs.Extents.{most_bytes}
use Rattle.source_typing.specs.Tables.{Part}
use Rattle.cyc_types.specs.Cells.{KindAt, cells_found, cells_of, found_cells, kept_with, moved_by, part_cells, placed_onto, struct_cells}
use Rattle.cyc_types.specs.InOrder.{are_known}
use Rattle.cyc_types.specs.Known.{Entry, found}
use Rattle.cyc_types.specs.Laying.{AreWithin, EndsIn, Goes, IsWithin, all_steps, all_waiting, found_steps, part_steps, waiting_cells, waiting_parts}
use Rattle.cyc_types.specs.Laying.{waiting_steps, whole_cells}
use Rattle.cyc_types.specs.Measures.{bytes_and, extent_of, part_extent, placed_after, quick_laid, quick_measure, stored, struct_if, struct_measure}
use Rattle.cyc_types.specs.Tags.{members_of}
use Rattle.cyc_types.specs.declared.laying.Laying.{Laying}
use Rattle.cyc_types.specs.declared.laying.Waiting.{Waiting}
use Rattle.cyc_types.specs.declared.tag.Known.{Known}
use Rattle.cyc_types.proofs.NextMember.{Next, after, laid_more, next, next_cells}
use Rattle.cyc_types.proofs.PlacedCells.{map_here}
use Rattle.cyc_types.proofs.StillMeasured.{known_measure}
use Rattle.cyc_types.proofs.StructCells.{cells_of_struct, some_steps, steps_of_struct}

-- ---- one more that waits

pub more_cells : (es : List Entry) (ws : List Waiting) (w : Waiting) → all_waiting es (ws ++ w ∷ []) ≡ waiting_cells es w ++ all_waiting es ws
more_cells es [] w = sym (append-nil (waiting_cells es w))
more_cells es (v ∷ ws) w = ap (λ cs. cs ++ waiting_cells es v) (more_cells es ws w) ∙ append_assoc (waiting_cells es w) (all_waiting es ws) (waiting_cells es v)

pub more_within : (es : List Entry) (ws : List Waiting) (w : Waiting) → IsWithin es w → AreWithin es ws → AreWithin es (ws ++ w ∷ [])
more_within es [] w own h = (own, tt)
more_within es (v ∷ ws) w own h = (h.0, more_within es ws w own h.1)

pub last_within : (es : List Entry) (ws : List Waiting) (w : Waiting) → AreWithin es (ws ++ w ∷ []) → IsWithin es w
last_within es [] w h = h.0
last_within es (v ∷ ws) w h = last_within es ws w h.1

pub others_within : (es : List Entry) (ws : List Waiting) (w : Waiting) → AreWithin es (ws ++ w ∷ []) → AreWithin es ws
others_within es [] w h = tt
others_within es (v ∷ ws) w h = (h.0, others_within es ws w h.1)

pub more_steps : (es : List Entry) (ws : List Waiting) (w : Waiting)
    → waiting_steps es (ws ++ w ∷ []) ≡ all_steps (found_steps es) (waiting_parts w) + waiting_steps es ws
more_steps es [] w = refl
more_steps es (v ∷ ws) w = let rest = more_steps es ws w in omega (arith, rest)

-- ---- into a struct

module _ (es : List Entry) (known : are_known [] es ≡ true) (tag : List ℕ) (k : Known) (is_found : found es tag ≡ Some k) where
  pub union_cells : k.tag.is_union ≡ true → found_cells es tag ≡ []
  union_cells h =
      cells_of_struct es tag k known is_found
      ∙ ap (λ b. cond b [] (kept_with (stored k) (struct_cells es (found_cells es) (members_of k.tag.members.items)))) h

  struct_is : k.tag.is_union ≡ false → (o : Option Extent) → stored k ≡ o → (at : ℕ) → EndsIn at o
      → found_cells es tag ≡ struct_cells es (found_cells es) (members_of k.tag.members.items)
  struct_is h None same at ends = absurd ends
  struct_is h (Some e) same at ends =
      cells_of_struct es tag k known is_found
      ∙ ap (λ b. cond b [] (kept_with (stored k) (struct_cells es (found_cells es) (members_of k.tag.members.items)))) h
      ∙ ap (λ o. kept_with o (struct_cells es (found_cells es) (members_of k.tag.members.items))) same

  within : k.tag.is_union ≡ false → (o : Option Extent) → stored k ≡ o → (w : Waiting) → extent_of w.so_far ≡ bytes_and 0 1
      → w.members.now ≡ k.tag.members.items → EndsIn w.at o → IsWithin es w
  within h None same w start members ends = absurd ends
  within h (Some e) same w start members ends = record {
    extent = e;
    laid = ap (λ s. quick_laid (quick_measure es) (Some s) (waiting_parts w)) start
        ∙ ap (λ ms. struct_measure es (members_of ms)) members
        ∙ sym (known_measure es tag k known is_found h)
        ∙ same;
    ends = ends;
  }

  pub goes_in : k.tag.is_union ≡ false → (from to : Laying) (w : Waiting) → extent_of w.so_far ≡ bytes_and 0 1 → w.members.now ≡ k.tag.members.items
      → EndsIn w.at (struct_if stored (found es tag)) → to.cells.items ≡ from.cells.items → to.waiting.items ≡ from.waiting.items ++ w ∷ []
      → Goes es (map (moved_by w.at) (found_cells es tag)) (found_steps es tag) from to
  goes_in h from to w start members ends cells waiting =
      let own : EndsIn w.at (stored k) =
      subst (EndsIn w.at) (ap (struct_if stored) is_found ∙ ap (λ b. cond b (Some (bytes_and 0 1)) (stored k)) h) ends in
      let is : waiting_cells es w ≡ map (moved_by w.at) (found_cells es tag) =
      ap (λ s. map (moved_by w.at) (placed_onto (quick_measure es) (cells_found es) (Some s) (waiting_parts w))) start
      ∙ ap (λ ms. map (moved_by w.at) (struct_cells es (found_cells es) (members_of ms))) members
      ∙ sym (ap (map (moved_by w.at)) (struct_is h (stored k) refl w.at own)) in
      let steps : all_steps (found_steps es) (waiting_parts w) ≡ found_steps es tag =
      ap (λ ms. all_steps (found_steps es) (members_of ms)) members ∙ sym (steps_of_struct es tag k known is_found) in
      let counted : waiting_steps es to.waiting.items ≡ all_steps (found_steps es) (waiting_parts w) + waiting_steps es from.waiting.items =
      ap (waiting_steps es) waiting ∙ more_steps es from.waiting.items w in
      record {
        cells = ap (λ cs. cells_of cs ++ all_waiting es to.waiting.items) cells
            ∙ ap (λ ws. cells_of from.cells.items ++ all_waiting es ws) waiting
            ∙ ap (λ cs. cells_of from.cells.items ++ cs) (more_cells es from.waiting.items w
            ∙ ap (λ cs. cs ++ all_waiting es from.waiting.items) is);
        within = λ all. subst (AreWithin es) (sym waiting) (more_within es from.waiting.items w (within h (stored k) refl w start members own) all);
        fewer = omega (arith, counted, steps);
      }

-- ---- nothing, and one cell

pub goes_nowhere : (es : List Entry) (cs : List KindAt) (n : ℕ) (from : Laying) → cs ≡ [] → Goes es cs n from from
goes_nowhere es cs n from h = record {
  cells = sym (ap (λ cs. cells_of from.cells.items ++ (cs ++ all_waiting es from.waiting.items)) h);
  within = λ all. all;
  fewer = omega arith;
}

pub goes_one : (es : List Entry) (c : KindAt) (cs : List KindAt) (n : ℕ) (from to : Laying) → c ∷ [] ≡ cs
    → cells_of to.cells.items ≡ cells_of from.cells.items ++ c ∷ [] → to.waiting.items ≡ from.waiting.items → Goes es cs n from to
goes_one es c cs n from to is cells waiting = record {
  cells = ap (λ l. l ++ all_waiting es to.waiting.items) cells
      ∙ ap (λ ws. (cells_of from.cells.items ++ c ∷ []) ++ all_waiting es ws) waiting
      ∙ append_assoc (cells_of from.cells.items) (c ∷ []) (all_waiting es from.waiting.items)
      ∙ ap (λ l. cells_of from.cells.items ++ (l ++ all_waiting es from.waiting.items)) is;
  within = λ all. subst (AreWithin es) (sym waiting) all;
  fewer = let same : waiting_steps es to.waiting.items ≡ waiting_steps es from.waiting.items = ap (waiting_steps es) waiting in omega (arith, same);
}

-- ---- a member

module _ (es : List Entry) (w : Waiting) (own : IsWithin es w) (p : Part) (ps : List Part) (parts : waiting_parts w ≡ p ∷ ps) where
  is_next : Next (quick_measure es) ps (extent_of w.so_far) own.extent (part_extent (quick_measure es) p.type)
  is_next =
      next (quick_measure es) ps (extent_of w.so_far) own.extent (part_extent (quick_measure es) p.type)
      (sym (ap (quick_laid (quick_measure es) (Some (extent_of w.so_far))) parts) ∙ own.laid)

  some_further : (e : Extent) (o : Option Extent) → Some e ≡ part_extent (quick_measure es) p.type → o ≡ placed_after (extent_of w.so_far) (Some e)
      → o ≡ Some (after (extent_of w.so_far) is_next.extent)
  some_further e o h more = more ∙ ap (placed_after (extent_of w.so_far)) (h) ∙ is_next.further

  -- it lies within
  pub member_ends : (e : Extent) (start : ℕ) → Some e ≡ part_extent (quick_measure es) p.type → start ≡ rounded_up (extent_of w.so_far).size e.align
      → EndsIn (w.at + start) (part_extent (quick_measure es) p.type)
  member_ends e start h at =
      let x = is_next.extent in
      let same : Some e ≡ Some x = h ∙ is_next.is in
      let size : e ≡ x = cc in
      let more = laid_more (quick_measure es) ps (after (extent_of w.so_far) x) own.extent is_next.laid in
      let begins : start ≡ rounded_up (extent_of w.so_far).size x.align = at ∙ ap (λ (y : Extent). rounded_up (extent_of w.so_far).size y.align) size in
      let ends = own.ends in
      let within : w.at + start + x.size ≤ most_bytes = omega (arith, more, begins, ends) in
      subst (EndsIn (w.at + start)) (sym is_next.is) within

  -- the others come after it
  pub goes_on : (e further : Extent) (start : ℕ) (v : Waiting) (from mid to : Laying) → Some e ≡ part_extent (quick_measure es) p.type
      → Some further ≡ placed_after (extent_of w.so_far) (Some e) → start ≡ rounded_up (extent_of w.so_far).size e.align
      → v.at ≡ w.at → extent_of v.so_far ≡ further → waiting_parts v ≡ ps
      → mid.cells.items ≡ from.cells.items → mid.waiting.items ≡ from.waiting.items ++ v ∷ []
      → Goes es (map (moved_by (w.at + start)) (part_cells (cells_found es) p.type)) (part_steps (found_steps es) p.type) mid to
      → Goes es (waiting_cells es w) (all_steps (found_steps es) (waiting_parts w) - 1) from to
  goes_on e further start v from mid to h more begins at so_far others cells waiting goes =
      let steps = found_steps es in
      let here = map (moved_by (w.at + start)) (part_cells (cells_found es) p.type) in
      let v_cells : waiting_cells es v ≡ map (moved_by w.at) (placed_onto (quick_measure es) (cells_found es) (Some further) ps) =
      ap (λ n. map (moved_by n) (placed_onto (quick_measure es) (cells_found es) (Some (extent_of v.so_far)) (waiting_parts v))) at
      ∙ ap (λ s. map (moved_by w.at) (placed_onto (quick_measure es) (cells_found es) (Some s) (waiting_parts v))) so_far
      ∙ ap (λ l. map (moved_by w.at) (placed_onto (quick_measure es) (cells_found es) (Some further) l)) others in
      let w_cells : waiting_cells es w ≡ here ++ waiting_cells es v =
      ap (λ l. map (moved_by w.at) (placed_onto (quick_measure es) (cells_found es) (Some (extent_of w.so_far)) l)) parts
      ∙ next_cells (quick_measure es) (cells_found es) w.at (extent_of w.so_far) e (Some further) p ps (sym h) more
      ∙ ap (λ n. map (moved_by (w.at + n)) (part_cells (cells_found es) p.type)
      ++ map (moved_by w.at) (placed_onto (quick_measure es) (cells_found es) (Some further) ps)) (sym begins)
      ∙ ap (λ cs. here ++ cs) (sym v_cells) in
      let further_is : further ≡ after (extent_of w.so_far) is_next.extent =
      let same : Some further ≡ Some (after (extent_of w.so_far) is_next.extent) = some_further e (Some further) h more in cc in
      let v_within : IsWithin es v =
      record {
        extent = own.extent;
        laid = ap (λ s. quick_laid (quick_measure es) (Some s) (waiting_parts v)) (so_far ∙ further_is)
            ∙ ap (quick_laid (quick_measure es) (Some (after (extent_of w.so_far) is_next.extent))) others
            ∙ is_next.laid;
        ends = subst (λ n. n + own.extent.size ≤ most_bytes) (sym at) own.ends;
      } in
      let counted : waiting_steps es mid.waiting.items ≡ all_steps steps (waiting_parts v) + waiting_steps es from.waiting.items =
      ap (waiting_steps es) waiting ∙ more_steps es from.waiting.items v in
      let v_steps : all_steps steps (waiting_parts v) ≡ all_steps steps ps = ap (all_steps steps) others in
      let w_steps : all_steps steps (waiting_parts w) ≡ 1 + part_steps steps p.type + all_steps steps ps = ap (all_steps steps) parts in
      let fewer = goes.fewer in
      record {
        cells = goes.cells
            ∙ ap (λ cs. cells_of cs ++ (here ++ all_waiting es mid.waiting.items)) cells
            ∙ ap (λ cs. cells_of from.cells.items ++ (here ++ cs)) (ap (all_waiting es) waiting ∙ more_cells es from.waiting.items v)
            ∙ ap (λ cs. cells_of from.cells.items ++ cs) (sym (append_assoc here (waiting_cells es v) (all_waiting es from.waiting.items))
            ∙ ap (λ cs. cs ++ all_waiting es from.waiting.items) (sym w_cells));
        within = λ all. goes.within (subst (AreWithin es) (sym waiting) (more_within es from.waiting.items v v_within all));
        fewer = omega (arith, counted, v_steps, w_steps, fewer);
      }

-- ---- all

-- nothing was found before
pub begun : (es : List Entry) (cs : List KindAt) (n : ℕ) (from to : Laying) → Goes es (map (moved_by 0) cs) n from to → from.cells.items ≡ []
    → from.waiting.items ≡ [] → whole_cells es to ≡ cs
begun es cs n from to goes cells waiting =
    goes.cells
    ∙ ap (λ l. cells_of l ++ (map (moved_by 0) cs ++ all_waiting es from.waiting.items)) cells
    ∙ ap (λ ws. map (moved_by 0) cs ++ all_waiting es ws) waiting
    ∙ append-nil (map (moved_by 0) cs)
    ∙ map_here cs

pub begun_within : (es : List Entry) (cs : List KindAt) (n : ℕ) (from to : Laying) → Goes es cs n from to → from.waiting.items ≡ []
    → AreWithin es to.waiting.items
begun_within es cs n from to goes waiting = goes.within (subst (AreWithin es) (sym waiting) tt)

-- nothing is still to come
pub nothing_waits : (es : List Entry) (cs : List KindAt) (l : Laying) → whole_cells es l ≡ cs → l.waiting.items ≡ [] → cells_of l.cells.items ≡ cs
nothing_waits es cs l is waiting =
    sym (ap (λ ws. cells_of l.cells.items ++ all_waiting es ws) waiting ∙ append-nil (cells_of l.cells.items)) ∙ is

-- one that waits was taken off, and its first member was laid
pub goes_further : (es : List Entry) (whole : List KindAt) (w : Waiting) (old from to : Laying)
    → Goes es (waiting_cells es w) (all_steps (found_steps es) (waiting_parts w) - 1) from to
    → old.waiting.items ≡ from.waiting.items ++ w ∷ [] → from.cells.items ≡ old.cells.items → whole_cells es old ≡ whole → whole_cells es to ≡ whole
goes_further es whole w old from to goes waiting cells is =
    goes.cells
    ∙ ap (λ cs. cells_of cs ++ (waiting_cells es w ++ all_waiting es from.waiting.items)) cells
    ∙ ap (λ cs. cells_of old.cells.items ++ cs) (sym (ap (all_waiting es) waiting ∙ more_cells es from.waiting.items w))
    ∙ is

pub goes_down : (es : List Entry) (w : Waiting) (old from to : Laying)
    → Goes es (waiting_cells es w) (all_steps (found_steps es) (waiting_parts w) - 1) from to
    → old.waiting.items ≡ from.waiting.items ++ w ∷ [] → 1 + waiting_steps es to.waiting.items ≤ waiting_steps es old.waiting.items
goes_down es w old from to goes waiting =
    let counted : waiting_steps es old.waiting.items ≡ all_steps (found_steps es) (waiting_parts w) + waiting_steps es from.waiting.items =
    ap (waiting_steps es) waiting ∙ more_steps es from.waiting.items w in
    let some = some_steps (found_steps es) (waiting_parts w) in
    let fewer = goes.fewer in
    omega (arith, counted, some, fewer)
