-- The tables of a program: the types in them name structs by their tags, since tags keep their kinds while they are judged.
use Rattle.std.proofs.Common.{◌≡◌, ℕ, suc, Bool, true, false, Option, Some, None, List, [], ◌∷◌, ◌++◌, refl, sym, subst, ap, ◌∙◌}
use Rattle.std.specs.Prelude.{bytes_eq, if◌then◌else◌}
use Rattle.cyc_tree.specs.Tree as tree
use Rattle.cyc_tree.specs.Tree.{Item}
use Rattle.source_typing.specs.Declarations.{what_after, what_of}
use Rattle.source_typing.specs.Faults.{Fault}
use Rattle.source_typing.specs.Functions.{read_parameters, result_type, variables}
use Rattle.source_typing.specs.Globals.{count_of, global_faults, global_type}
use Rattle.source_typing.specs.Programs.{Judged, builtins, entries, entries_with, first_entry, first_from, judged_tag, name_of, named}
use Rattle.source_typing.specs.Regions.{Region, TheHeap}
use Rattle.source_typing.specs.Scope.{Env, at_item}
use Rattle.source_typing.specs.Tables.{Entry, OfBuiltin, OfFunction, OfOther, OfTag, OfValue, Tables, find}
use Rattle.source_typing.specs.Tags.{member_type, parts_by, tag_scope}
use Rattle.source_typing.specs.Types.{StaticType}
use Rattle.source_typing.specs.Verdicts.{Faulty, Of, Unjudged, Verdict, known}
use Rattle.source_typing.proofs.Entries.{judged_name}
use Rattle.accepted_proof.specs.Good.{NamesIfKnown, NamesStructs, PartsName, WhatNames}
use Rattle.accepted_proof.proofs.HeadTags.{MeanAlike, TablesAlike, found_alike}
use Rattle.accepted_proof.proofs.kinds.Perhaps.{Perhaps}
use Rattle.accepted_proof.proofs.kinds.Types.{KnowsStructs, global_named, member_named, result_named}
use Rattle.accepted_proof.proofs.TagOrder.{alike_step, builtins_alike, item_alike}
use Rattle.accepted_proof.proofs.Tags.{judged_list}

-- tags of the same kinds
pub alike_known : (P : List ℕ → Type 0) (g h : Tables) → TablesAlike g h → KnowsStructs P h → KnowsStructs P g
alike_known P g h a k x t e u = by (find h x) refl (subst (λ o. MeanAlike o (find h x)) e (found_alike g h x a))
  where
    by : (o : Option Entry) → find h x ≡ o → MeanAlike (Some (OfTag t)) o → P x
    by None q m = absurd m
    by (Some (OfTag z)) q m = k x z q (sym m.1 ∙ u)
    by (Some (OfValue v)) q m = absurd m
    by (Some (OfFunction s)) q m = absurd m
    by (Some (OfBuiltin n)) q m = absurd m
    by (Some OfOther) q m = absurd m

-- and where the others are known
pub known_alike : (P : List ℕ → Type 0) (g h : Tables) → TablesAlike g h → KnowsStructs P g → KnowsStructs P h
known_alike P g h a k x t e u = by (find g x) refl (subst (λ o. MeanAlike (find g x) o) e (found_alike g h x a))
  where
    by : (o : Option Entry) → find g x ≡ o → MeanAlike o (Some (OfTag t)) → P x
    by None q m = absurd m
    by (Some (OfTag z)) q m = k x z q (m.1 ∙ u)
    by (Some (OfValue v)) q m = absurd m
    by (Some (OfFunction s)) q m = absurd m
    by (Some (OfBuiltin n)) q m = absurd m
    by (Some OfOther) q m = absurd m

-- all items are judged
pub all_alike : (h b : Tables) (i : ℕ) (done : List Judged) (is : List Item) → TablesAlike (entries done ++ first_from h i is) b
    → TablesAlike (entries (done ++ judged_list h i done is)) b
all_alike h b i done [] a =
    subst (λ js. TablesAlike (entries js) b) (sym (behind done)) (subst (λ g. TablesAlike g b) (nothing (entries done)) a)
  where
    nothing : (g : Tables) → g ++ [] ≡ g
    nothing [] = refl
    nothing (n ∷ g) = ap (λ z. n ∷ z) (nothing g)

    behind : (js : List Judged) → js ++ [] ≡ js
    behind [] = refl
    behind (j ∷ js) = ap (λ z. j ∷ z) (behind js)
all_alike h b i done (x ∷ is) a =
    let g : Tables = builtins (entries done ++ first_from h i (x ∷ is)) in
    let j : Judged = judged_tag g i x in
    subst (λ js. TablesAlike (entries js) b) (together done j (judged_list h (suc i) (done ++ j ∷ []) is))
    (all_alike h b (suc i) (done ++ j ∷ []) is
    (alike_step done j (named (name_of x) (first_entry h i x)) (first_from h (suc i) is) b (judged_name g i x) (λ e q. item_alike g h i x e q) a))
  where
    together : (js : List Judged) (j : Judged) (ks : List Judged) → (js ++ j ∷ []) ++ ks ≡ js ++ j ∷ ks
    together [] j ks = refl
    together (k ∷ js) j ks = ap (λ z. k ∷ z) (together js j ks)

-- ---- entries

module _ (P : List ℕ → Type 0) where
  -- the types in an entry
  abbrev pub EntryTypes : Entry → Type 0
  EntryTypes (OfTag t) = PartsName P t.parts
  EntryTypes (OfValue w) = WhatNames P w
  EntryTypes (OfFunction s) = NamesIfKnown P s.result
  EntryTypes e = Unit {0}

  abbrev pub AllTypes : Tables → Type 0
  AllTypes [] = Unit {0}
  AllTypes (n ∷ g) = EntryTypes n.entry × AllTypes g

  abbrev pub MeansTypes : Option Entry → Type 0
  MeansTypes None = Unit {0}
  MeansTypes (Some e) = EntryTypes e

  pub found_types : (g : Tables) (x : List ℕ) → AllTypes g → MeansTypes (find g x)
  found_types [] x h = tt
  found_types (n ∷ g) x h = by (bytes_eq n.name x) (found_types g x h.1)
    where
      by : (b : Bool) → MeansTypes (find g x) → MeansTypes (if b then Some n.entry else find g x)
      by true others = h.0
      by false others = others

  known_named : (v : Verdict StaticType) → Perhaps (λ t. NamesStructs P t) v → NamesIfKnown P (known v)
  known_named (Of t) h = h
  known_named (Faulty f fs) h = tt
  known_named Unjudged h = tt

  parts_named : (g : Env) (union : Bool) (ms : List tree.Member) → KnowsStructs P g.tables → PartsName P (parts_by g union ms)
  parts_named g union [] k = tt
  parts_named g union (m ∷ ms) k = (known_named (member_type g union m.of) (member_named P g union m.of k), parts_named g union ms k)

  -- a tag as it is judged
  item_types : (g : Tables) (i : ℕ) (x : Item) → KnowsStructs P g → EntryTypes (judged_tag g i x).entry.entry
  item_types g i (tree.StructItem s) k = parts_named (tag_scope g i s) false s.members k
  item_types g i (tree.UnionItem s) k = parts_named (tag_scope g i s) true s.members k
  item_types g i (tree.GlobalItem x) k = tt
  item_types g i (tree.FunctionItem f) k = tt

  pub list_types : (b : Tables) (i : ℕ) (done : List Judged) (is : List Item) → KnowsStructs P (builtins b)
      → TablesAlike (entries done ++ first_from (builtins b) i is) b → AllTypes (entries (judged_list (builtins b) i done is))
  list_types b i done [] k a = tt
  list_types b i done (x ∷ is) k a =
      let h : Tables = builtins b in
      let g : Tables = builtins (entries done ++ first_from h i (x ∷ is)) in
      let j : Judged = judged_tag g i x in (
        item_types g i x (alike_known P g h (builtins_alike (entries done ++ first_from h i (x ∷ is)) b a) k),
        list_types b (suc i) (done ++ j ∷ []) is k
            (alike_step done j (named (name_of x) (first_entry h i x)) (first_from h (suc i) is) b (judged_name g i x) (λ e q. item_alike g h i x e q) a),
      )

  -- ---- globals and functions

  what_named : (fs : List Fault) (r : Region) (o : Option ℕ) (v : Verdict StaticType) → Perhaps (λ t. NamesStructs P t) v
      → WhatNames P (what_after fs (what_of r o v))
  what_named (f ∷ fs) r o v h = tt
  what_named [] r None (Of t) h = h
  what_named [] r (Some n) (Of t) h = h
  what_named [] r None (Faulty f fs) h = tt
  what_named [] r (Some n) (Faulty f fs) h = tt
  what_named [] r None Unjudged h = tt
  what_named [] r (Some n) Unjudged h = tt

  pub entries_types : (h : Tables) (i : ℕ) (js : List Judged) (is : List Item) → KnowsStructs P h → AllTypes (entries js)
      → AllTypes (entries_with false h i js is)
  entries_types h i [] is k a = tt
  entries_types h i (j ∷ js) [] k a = tt
  entries_types h i (j ∷ js) (tree.StructItem s ∷ is) k a = (a.0, entries_types h (suc i) js is k a.1)
  entries_types h i (j ∷ js) (tree.UnionItem s ∷ is) k a = (a.0, entries_types h (suc i) js is k a.1)
  entries_types h i (j ∷ js) (tree.GlobalItem x ∷ is) k a =
      let g : Env = at_item false h i in (
        what_named (global_faults g x) TheHeap (count_of x.initial) (global_type g x) (global_named P g x k),
        entries_types h (suc i) js is k a.1,
      )
  entries_types h i (j ∷ js) (tree.FunctionItem f ∷ is) k a =
      let names = (read_parameters h (variables [] 0) f.parameters).variables_after.names in
      (known_named (result_type h names f.result) (result_named P h names f.result k), entries_types h (suc i) js is k a.1)
