-- The steps of the run up to each of them.
use Rattle.tree_filesets.specs.Changing.{set_access_answer, set_access_target, write_answer, write_target}
use Rattle.tree_filesets.specs.Creation.{create_answer, create_target}
use Rattle.tree_filesets.specs.Founding.{new_fileset}
use Rattle.tree_filesets.specs.Rows.{fileset_answer}
use Rattle.tree_filesets.specs.Telling.{read_reply}
use Rattle.tree_filesets.specs.Updates.{updated}
use Rattle.tree_filesets.specs.Uses.{use_target}
use Rattle.tree_filesets.specs.Walk.{entry_target, file_target, insert_target, parent_target, permitted_file, step}
use Rattle.tree_filesets.specs.Walk.{target}
use Rattle.tree_answers.specs.Answers.{answer_for, answer_to, fileset_row}
use Rattle.tree_answers.specs.Finding.{fileset_named, fileset_place}
use Rattle.tree_answers.specs.Founding.{new_fileset_answer, new_fileset_target, room_for}
use Rattle.tree_answers.specs.Locks.{lock_answer, lock_check, unlock_answer}
use Rattle.tree_answers.specs.Stores.{stored_tree}
use Rattle.run_examples.specs.Journal.{step_1, step_10, step_11, step_12, step_13, step_14, step_15, step_16, step_17}
use Rattle.run_examples.specs.Journal.{step_18, step_19, step_2, step_20, step_21, step_22, step_23, step_24, step_25}
use Rattle.run_examples.specs.Journal.{step_26, step_27, step_28, step_29, step_3, step_30, step_31, step_32, step_33}
use Rattle.run_examples.specs.Journal.{step_34, step_35, step_36, step_37, step_38, step_39, step_4, step_40, step_41}
use Rattle.run_examples.specs.Journal.{step_42, step_43, step_44, step_45, step_46, step_47, step_48, step_49, step_5}
use Rattle.run_examples.specs.Journal.{step_50, step_51, step_52, step_6, step_7, step_8, step_9}
use Rattle.std.proofs.Common.{[], ℕ, ◌∷◌}
use Rattle.std.specs.Prelude.{List}
use Rattle.run_rules.specs.declared.step.Step.{Step}

abbrev pub until_0 : List Step
until_0 = []

abbrev pub until_1 : List Step
until_1 = step_1 ∷ until_0

abbrev pub until_2 : List Step
until_2 = step_2 ∷ until_1

abbrev pub until_3 : List Step
until_3 = step_3 ∷ until_2

abbrev pub until_4 : List Step
until_4 = step_4 ∷ until_3

abbrev pub until_5 : List Step
until_5 = step_5 ∷ until_4

abbrev pub until_6 : List Step
until_6 = step_6 ∷ until_5

abbrev pub until_7 : List Step
until_7 = step_7 ∷ until_6

abbrev pub until_8 : List Step
until_8 = step_8 ∷ until_7

abbrev pub until_9 : List Step
until_9 = step_9 ∷ until_8

abbrev pub until_10 : List Step
until_10 = step_10 ∷ until_9

abbrev pub until_11 : List Step
until_11 = step_11 ∷ until_10

abbrev pub until_12 : List Step
until_12 = step_12 ∷ until_11

abbrev pub until_13 : List Step
until_13 = step_13 ∷ until_12

abbrev pub until_14 : List Step
until_14 = step_14 ∷ until_13

abbrev pub until_15 : List Step
until_15 = step_15 ∷ until_14

abbrev pub until_16 : List Step
until_16 = step_16 ∷ until_15

abbrev pub until_17 : List Step
until_17 = step_17 ∷ until_16

abbrev pub until_18 : List Step
until_18 = step_18 ∷ until_17

abbrev pub until_19 : List Step
until_19 = step_19 ∷ until_18

abbrev pub until_20 : List Step
until_20 = step_20 ∷ until_19

abbrev pub until_21 : List Step
until_21 = step_21 ∷ until_20

abbrev pub until_22 : List Step
until_22 = step_22 ∷ until_21

abbrev pub until_23 : List Step
until_23 = step_23 ∷ until_22

abbrev pub until_24 : List Step
until_24 = step_24 ∷ until_23

abbrev pub until_25 : List Step
until_25 = step_25 ∷ until_24

abbrev pub until_26 : List Step
until_26 = step_26 ∷ until_25

abbrev pub until_27 : List Step
until_27 = step_27 ∷ until_26

abbrev pub until_28 : List Step
until_28 = step_28 ∷ until_27

abbrev pub until_29 : List Step
until_29 = step_29 ∷ until_28

abbrev pub until_30 : List Step
until_30 = step_30 ∷ until_29

abbrev pub until_31 : List Step
until_31 = step_31 ∷ until_30

abbrev pub until_32 : List Step
until_32 = step_32 ∷ until_31

abbrev pub until_33 : List Step
until_33 = step_33 ∷ until_32

abbrev pub until_34 : List Step
until_34 = step_34 ∷ until_33

abbrev pub until_35 : List Step
until_35 = step_35 ∷ until_34

abbrev pub until_36 : List Step
until_36 = step_36 ∷ until_35

abbrev pub until_37 : List Step
until_37 = step_37 ∷ until_36

abbrev pub until_38 : List Step
until_38 = step_38 ∷ until_37

abbrev pub until_39 : List Step
until_39 = step_39 ∷ until_38

abbrev pub until_40 : List Step
until_40 = step_40 ∷ until_39

abbrev pub until_41 : List Step
until_41 = step_41 ∷ until_40

abbrev pub until_42 : List Step
until_42 = step_42 ∷ until_41

abbrev pub until_43 : List Step
until_43 = step_43 ∷ until_42

abbrev pub until_44 : List Step
until_44 = step_44 ∷ until_43

abbrev pub until_45 : List Step
until_45 = step_45 ∷ until_44

abbrev pub until_46 : List Step
until_46 = step_46 ∷ until_45

abbrev pub until_47 : List Step
until_47 = step_47 ∷ until_46

abbrev pub until_48 : List Step
until_48 = step_48 ∷ until_47

abbrev pub until_49 : List Step
until_49 = step_49 ∷ until_48

abbrev pub until_50 : List Step
until_50 = step_50 ∷ until_49

abbrev pub until_51 : List Step
until_51 = step_51 ∷ until_50

abbrev pub until_52 : List Step
until_52 = step_52 ∷ until_51

-- the words in which the tree answers calls
unfoldable pub tree_words : ℕ
unfolding answer_to answer_for fileset_row fileset_place fileset_named room_for new_fileset_target new_fileset_answer
    new_fileset fileset_answer set_access_target set_access_answer create_target create_answer write_target write_answer
    read_reply lock_check lock_answer unlock_answer stored_tree updated use_target step target file_target
    permitted_file parent_target insert_target entry_target
tree_words = 0
