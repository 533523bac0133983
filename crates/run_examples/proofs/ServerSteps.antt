-- Each step of the server meets all rules: its tests are computed.
use Rattle.base_types.specs.declared.ids.Fid.{Fid}
use Rattle.tree_calls.specs.declared.part.DirEntry.{DirEntry}
use Rattle.need_host.specs.Shows.{shows}
use Rattle.tree_answers.specs.declared.tree.Tree.{Tree}
use Rattle.need_server.specs.Wants.{want, want_in}
use Rattle.message_types.specs.declared.telling.Grant.{Grant as GrantOf}
use Rattle.run_examples.proofs.AnswerTests.{step_meets}
use Rattle.run_examples.proofs.ServerExamples.{served_words}
use Rattle.run_examples.proofs.Tests.{tokens}
use Rattle.run_examples.specs.Steps.{entry, file, file_bytes, file_status, file_update, root_entries, root_status}
use Rattle.run_examples.specs.Steps.{status_of}
use Rattle.run_examples.proofs.Prefixes.{tree_words, until_1, until_12, until_14, until_17, until_20, until_22}
use Rattle.run_examples.proofs.Prefixes.{until_24, until_26, until_28, until_3, until_31, until_33, until_36, until_39}
use Rattle.run_examples.proofs.Prefixes.{until_40, until_42, until_45, until_46, until_47, until_5, until_50, until_7}
use Rattle.run_examples.proofs.Prefixes.{until_9}
use Rattle.run_examples.specs.Journal.{entries, second_change, waiting}
use Rattle.run_examples.specs.Journal.{script, start, step_10, step_13, step_15, step_18, step_2, step_21}
use Rattle.run_examples.specs.Journal.{step_23, step_25, step_27, step_29, step_32, step_34, step_37, step_4, step_40}
use Rattle.run_examples.specs.Journal.{step_41, step_43, step_46, step_47, step_48, step_51, step_6, step_8, their_file}
use Rattle.run_examples.specs.Journal.{their_grant, their_root}
use Rattle.std.proofs.Common.{Bool, List, Some, [], false, inl, inr, refl, subst, true, ℕ, ◌∷◌, ◌≡◌}
use Rattle.token_types.specs.declared.token.Kind.TheVariants.{Status}
use Rattle.token_types.specs.declared.token.Token.{Token}
use Rattle.tree_laws.specs.Parts.{Part, cell_at}
use Rattle.tree_laws.specs.Parts.Part.{ByteAt, Entries, Size, Traits}
use Rattle.run_rules.specs.Doings.{Doing, doings_of}
use Rattle.run_rules.specs.Kept.{filesets_kept, filesets_through}
use Rattle.run_rules.specs.Past.{In}
use Rattle.run_tokens.specs.ServerRest.{ServerMeets}
use Rattle.run_rules.specs.ServerMay.{TellsKept}
use Rattle.run_rules.specs.Steps.{steps_of_server}
use Rattle.run_rules.specs.Views.{part_told}
use Rattle.run_tokens.specs.Worked.{root, site_one}
use Rattle.run_rules.specs.declared.step.Step.{Step}

-- all words of the tests
unfoldable pub site_words : ℕ
unfolding served_words tree_words want want_in
site_words = 0

abbrev pub deeds : List Step → List Doing
deeds past = doings_of 1 site_one past

abbrev pub Served : List Step → Step → Type 0
Served past s = ServerMeets script start site_one (steps_of_server site_one past) (deeds past) s

-- what is kept at the moment
abbrev tree_at : List Step → Step → Tree
tree_at past s = filesets_through s.cause s.applied (filesets_kept start site_one (steps_of_server site_one past))

-- what the first three Grants tell
abbrev pub granted_in : ℕ → Fid → ℕ → List Token → Bool → List DirEntry → GrantOf
granted_in number fid stamp tokens dir entries = record {
  bring = record { number = number; fid = fid; stamp = stamp; tokens = tokens };
  status = Some (status_of dir);
  pieces = [];
  entries = entries;
}

abbrev pub root_grant : GrantOf
root_grant = granted_in 1 root 1 (root_status ∷ root_entries ∷ []) true (entry ∷ [])

abbrev pub file_grant : GrantOf
file_grant = granted_in 2 file 1 (file_status ∷ []) false []

abbrev pub update_grant : GrantOf
update_grant = granted_in 3 file 2 (file_update ∷ file_bytes ∷ []) false []

root_tells : TellsKept (tree_at until_5 step_6) root_grant
unfolding site_words
root_tells t (ByteAt at) m e = refl
root_tells t Size m e = refl
root_tells t Traits m e = refl
root_tells t Entries m e = refl

file_tells : TellsKept (tree_at until_7 step_8) file_grant
unfolding site_words
file_tells t (ByteAt at) m e = refl
file_tells t Size m e = refl
file_tells t Traits m e = refl
file_tells t Entries m e = refl

update_tells : TellsKept (tree_at until_9 step_10) update_grant
unfolding site_words
update_tells t (ByteAt at) m e = refl
update_tells t Size m e = refl
update_tells t Traits m e = refl
update_tells t Entries m e = refl

their_root_tells : TellsKept (tree_at until_24 step_25) their_root
unfolding site_words
their_root_tells t (ByteAt at) m e = refl
their_root_tells t Size m e = refl
their_root_tells t Traits m e = refl
their_root_tells t Entries m e = refl

their_part : (part : Part) → shows (Status false) part ≡ true
    → part_told their_grant part ≡ (cell_at (tree_at until_28 step_29) file part).kept
unfolding site_words
their_part (ByteAt at) e = absurd (cc)
their_part Size e = refl
their_part Traits e = refl
their_part Entries e = absurd (cc)

their_file_tells : TellsKept (tree_at until_28 step_29) their_grant
their_file_tells t part m e = their_part part (subst (λ (x : Token). shows x.kind part ≡ true) (one t m) e)
  where
    one : (t : Token) → In t (their_file ∷ []) → t ≡ their_file
    one t (inl p) = p
    one t (inr p) = elim p [ ]

pub meets_2 : Served until_1 step_2
unfolding site_words
meets_2 = step_meets script start site_one (steps_of_server site_one until_1) (deeds until_1) step_2 refl (tt, tt) refl

pub meets_4 : Served until_3 step_4
unfolding site_words
meets_4 = step_meets script start site_one (steps_of_server site_one until_3) (deeds until_3) step_4 refl (tt, tt) refl

pub meets_6 : Served until_5 step_6
unfolding site_words
meets_6 = step_meets script start site_one (steps_of_server site_one until_5) (deeds until_5) step_6 refl (root_tells, tt) refl

pub meets_8 : Served until_7 step_8
unfolding site_words
meets_8 = step_meets script start site_one (steps_of_server site_one until_7) (deeds until_7) step_8 refl (file_tells, tt) refl

pub meets_10 : Served until_9 step_10
unfolding site_words
meets_10 = step_meets script start site_one (steps_of_server site_one until_9) (deeds until_9) step_10 refl (update_tells, tt) refl

pub meets_13 : Served until_12 step_13
unfolding site_words
meets_13 = step_meets script start site_one (steps_of_server site_one until_12) (deeds until_12) step_13 refl (tt, tt) refl

pub meets_15 : Served until_14 step_15
unfolding site_words
meets_15 = step_meets script start site_one (steps_of_server site_one until_14) (deeds until_14) step_15 refl (tt, tt) refl

pub meets_18 : Served until_17 step_18
unfolding site_words
meets_18 = step_meets script start site_one (steps_of_server site_one until_17) (deeds until_17) step_18 refl (tt, tt) refl

pub meets_21 : Served until_20 step_21
unfolding site_words
meets_21 = step_meets script start site_one (steps_of_server site_one until_20) (deeds until_20) step_21 refl (tt, tt) refl

pub meets_23 : Served until_22 step_23
unfolding site_words
meets_23 = step_meets script start site_one (steps_of_server site_one until_22) (deeds until_22) step_23 refl (tt, tt) refl

pub meets_25 : Served until_24 step_25
unfolding site_words
meets_25 = step_meets script start site_one (steps_of_server site_one until_24) (deeds until_24) step_25 refl (their_root_tells, tt) refl

pub meets_27 : Served until_26 step_27
unfolding site_words
meets_27 = step_meets script start site_one (steps_of_server site_one until_26) (deeds until_26) step_27 refl (tt, tt) refl

pub meets_29 : Served until_28 step_29
unfolding site_words
meets_29 = step_meets script start site_one (steps_of_server site_one until_28) (deeds until_28) step_29 refl (tt, (their_file_tells, tt)) refl

pub meets_32 : Served until_31 step_32
unfolding site_words
meets_32 = step_meets script start site_one (steps_of_server site_one until_31) (deeds until_31) step_32 refl (tt, tt) refl

pub meets_34 : Served until_33 step_34
unfolding site_words
meets_34 = step_meets script start site_one (steps_of_server site_one until_33) (deeds until_33) step_34 refl (tt, tt) refl

pub meets_37 : Served until_36 step_37
unfolding site_words
meets_37 = step_meets script start site_one (steps_of_server site_one until_36) (deeds until_36) step_37 refl (tt, tt) refl

pub meets_40 : Served until_39 step_40
unfolding site_words
meets_40 = step_meets script start site_one (steps_of_server site_one until_39) (deeds until_39) step_40 refl tt refl

pub meets_41 : Served until_40 step_41
unfolding site_words
meets_41 = step_meets script start site_one (steps_of_server site_one until_40) (deeds until_40) step_41 refl tt refl

pub meets_43 : Served until_42 step_43
unfolding site_words
meets_43 = step_meets script start site_one (steps_of_server site_one until_42) (deeds until_42) step_43 refl (tt, tt) refl

pub meets_46 : Served until_45 step_46
unfolding site_words
meets_46 = step_meets script start site_one (steps_of_server site_one until_45) (deeds until_45) step_46 refl (tt, tt) refl

pub meets_47 : Served until_46 step_47
unfolding site_words
meets_47 = step_meets script start site_one (steps_of_server site_one until_46) (deeds until_46) step_47 refl tt refl

pub meets_48 : Served until_47 step_48
unfolding site_words
meets_48 = step_meets script start site_one (steps_of_server site_one until_47) (deeds until_47) step_48 refl tt refl

pub meets_51 : Served until_50 step_51
unfolding site_words
meets_51 = step_meets script start site_one (steps_of_server site_one until_50) (deeds until_50) step_51 refl (tt, tt) refl

-- while a Change waits another one of its host and fileset comes
abbrev Reacts : List Step → Step → Type 0
Reacts past s = ServerMeets script start site_one past (deeds past) s

pub second_meets : Reacts waiting second_change
unfolding site_words
second_meets = step_meets script start site_one waiting (deeds waiting) second_change refl tt refl

abbrev crossed : List Step
crossed = second_change ∷ waiting

pub waiting_meets : Reacts crossed step_34
unfolding site_words
waiting_meets = step_meets script start site_one crossed (deeds crossed) step_34 refl (tt, tt) refl
