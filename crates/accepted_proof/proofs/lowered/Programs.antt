-- Lowering takes each program that is accepted.
use Rattle.std.proofs.Common.{◌≡◌, ℕ, ◌≤◌, suc, false, List, [], ◌∷◌, subst}
use Rattle.cyc_tree.specs.Tree as tree
use Rattle.cyc_tree.specs.Tree.{Item, Program}
use Rattle.source_lowering.specs.Lowerable.{AreStructs, AreUnions, HaveFewMembers, IsLowerable, TakesProgram}
use Rattle.source_meaning.specs.Programs.{unions_of, world_of}
use Rattle.source_meaning.specs.Shapes.{Layout}
use Rattle.source_meaning.specs.Steps.{World}
use Rattle.type_proof.specs.Programs.{ProgramJudged}
use Rattle.accepted_programs.specs.Accepted.{IsAccepted}
use Rattle.source_typing.specs.Functions.{function_faults, function_scope, head_of}
use Rattle.source_typing.specs.Globals.{global_faults}
use Rattle.source_typing.specs.Programs.{Judged, builtins, entries, items_from, judged_tags, tables_of}
use Rattle.source_typing.specs.Scope.{at_item}
use Rattle.source_typing.specs.Tables.{Tables}
use Rattle.source_typing.specs.Types.{shape_of}
use Rattle.source_typing.proofs.Inversion.{none_of_both}
use Rattle.accepted_proof.specs.Good.{BodiesJudged}
use Rattle.accepted_proof.specs.Laws.{AcceptedAreLowerable}
use Rattle.accepted_proof.proofs.Found.{AllKnown}
use Rattle.accepted_proof.proofs.good.Tables.{IsClean, is_clean_program}
use Rattle.accepted_proof.proofs.good.Types.{good_tags}
use Rattle.accepted_proof.proofs.Known.{known_object}
use Rattle.accepted_proof.proofs.lowered.Forms.{IsKnownScope}
use Rattle.accepted_proof.proofs.lowered.Heads.{function_lowered, global_lowered}
use Rattle.accepted_proof.proofs.lowered.Tables.{AllTypesKnown, choice_known, entry_known, member_known, types_known}
use Rattle.accepted_proof.proofs.lowered.Types.{AreSound, TagsThere, known_sound}
use Rattle.accepted_proof.proofs.lowered.ObjectSizes.{object_positive}
use Rattle.accepted_proof.proofs.Programs as programs
use Rattle.accepted_proof.proofs.lowered.SizedGlobals.{AreSized, globals_sized, object_sized}
use Rattle.accepted_proof.proofs.StringSizes.{strings_short}
use Rattle.accepted_proof.proofs.StructsFound.{StructsFound}
use Rattle.accepted_proof.proofs.TagOutcomes.{HaveValues}

-- ---- items

all_lowered : (w : World) (g h : Tables) (i : ℕ) (js : List Judged) (is : List Item) → TagsThere w g → AreSound g → AreStructs w.unions w.structs
    → ((i : ℕ) (f : tree.Function) → IsKnownScope w [] (function_scope false g i (head_of false g f))) → AllKnown g h i js is
    → AreSized w g i is → items_from false g i is ≡ [] → TakesProgram w is
all_lowered w g h i [] [] tags sound structs scope k z p = tt
all_lowered w g h i [] (x ∷ is) tags sound structs scope k z p = absurd k
all_lowered w g h i (j ∷ js) [] tags sound structs scope k z p = tt
all_lowered w g h i (j ∷ js) (tree.StructItem s ∷ is) tags sound structs scope k z p =
    (tt, all_lowered w g h (suc i) js is tags sound structs scope k.1 z.1 p)
all_lowered w g h i (j ∷ js) (tree.UnionItem s ∷ is) tags sound structs scope k z p =
    (tt, all_lowered w g h (suc i) js is tags sound structs scope k.1 z.1 p)
all_lowered w g h i (j ∷ js) (tree.GlobalItem x ∷ is) tags sound structs scope k z p =
    let d = none_of_both (global_faults (at_item false g i) x) (items_from false g (suc i) is) p in
    (global_lowered w g h i x k.0.1 tags sound d.0 structs z.0, all_lowered w g h (suc i) js is tags sound structs scope k.1 z.1 d.1)
all_lowered w g h i (j ∷ js) (tree.FunctionItem x ∷ is) tags sound structs scope k z p =
    let d = none_of_both (function_faults false g i x) (items_from false g (suc i) is) p in
    (function_lowered w g i x k.0.good tags sound (scope i x), all_lowered w g h (suc i) js is tags sound structs scope k.1 z.1 d.1)

-- ---- a program

module _ (bodies : BodiesJudged) (p : Program) (accepted : IsAccepted p) where
  abbrev tables : Tables
  tables = tables_of false p

  clean : IsClean p
  clean = is_clean_program p accepted

  found : StructsFound p
  found = programs.found bodies p accepted

  judged : ProgramJudged p tables
  judged = programs.judged bodies p accepted

  known : AllKnown tables (builtins (entries (judged_tags p))) 0 (judged_tags p) p
  known = programs.known bodies p accepted

  sound : AreSound tables
  sound = known_sound tables (good_tags 0 tables (programs.good bodies p accepted))

  types : AllTypesKnown (world_of p) tables
  types = (
    tt,
    (
      tt,
      types_known (world_of p) tables (builtins (entries (judged_tags p))) 0 (judged_tags p) p found.there sound known clean.items,
    ),
  )

  scope : (i : ℕ) (f : tree.Function) → IsKnownScope (world_of p) [] (function_scope false tables i (head_of false tables f))
  scope i f = record {
    entries = entry_known p judged found types sound;
    members = member_known p judged found types sound;
    choices = choice_known p judged found types sound;
    sizes = λ t k. subst (λ (n : ℕ). 1 ≤ n) (object_sized (world_of p) tables found.layouts found.union_layouts t)
        (object_positive (world_of p).unions (world_of p).structs found.lowered.0 (shape_of t) (known_object (world_of p) (shape_of t) k));
  }

  -- the rules measure its globals as they are laid out
  pub sized : AreSized (world_of p) tables 0 p
  sized =
      globals_sized (world_of p) tables found.layouts found.union_layouts 0 p (good_tags 0 tables (programs.good bodies p accepted))
      clean.items

  -- unions whose members a word counts
  all_unions : (ls : List Layout) → HaveValues ls → HaveFewMembers ls → AreUnions ls
  all_unions [] h f = tt
  all_unions (l ∷ ls) h f = (record { some = h.0; members = h.1; few = f.0 }, all_unions ls h.2 f.1)

  pub lowerable : HaveFewMembers (unions_of p) → IsLowerable p
  lowerable few = record {
    items = all_lowered (world_of p) tables (builtins (entries (judged_tags p))) 0 (judged_tags p) p found.there sound found.lowered.0 scope known sized
        clean.items;
    unions = all_unions (world_of p).unions found.values.0 few;
    structs = found.lowered.0;
    strings = strings_short tables p clean.names clean.sizes;
  }

-- ---- the laws

module _ (bodies : BodiesJudged) where
  pub programs_lowerable : AcceptedAreLowerable
  programs_lowerable p accepted few = lowerable bodies p accepted few

  pub programs_sized : (p : Program) → IsAccepted p → AreSized (world_of p) (tables_of false p) 0 p
  programs_sized p accepted = sized bodies p accepted
