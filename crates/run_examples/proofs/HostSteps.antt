-- Each step of a host meets all rules: its tests are computed.
use Rattle.need_host.specs.Calls.{read_look}
use Rattle.run_examples.proofs.Examples.{computed}
use Rattle.run_examples.proofs.HostChecks.{host_does}
use Rattle.run_examples.specs.Steps.{other}
use Rattle.run_examples.proofs.Prefixes.{until_0, until_10, until_11, until_13, until_15, until_16, until_18, until_19}
use Rattle.run_examples.proofs.Prefixes.{until_2, until_21, until_23, until_25, until_27, until_29, until_30, until_32}
use Rattle.run_examples.proofs.Prefixes.{until_34, until_35, until_37, until_38, until_4, until_41, until_43, until_44}
use Rattle.run_examples.proofs.Prefixes.{until_48, until_49, until_51, until_6, until_8}
use Rattle.run_examples.specs.Journal.{script, step_1, step_11, step_12, step_14, step_16, step_17, step_19, step_20}
use Rattle.run_examples.specs.Journal.{step_22, step_24, step_26, step_28, step_3, step_30, step_31, step_33, step_35}
use Rattle.run_examples.specs.Journal.{step_36, step_38, step_39, step_42, step_44, step_45, step_49, step_5, step_50}
use Rattle.run_examples.specs.Journal.{step_52, step_7, step_9}
use Rattle.std.proofs.Common.{refl, ℕ}
use Rattle.run_examples.specs.Laws.{Does}
use Rattle.run_tokens.specs.JournalWorked.{owner}
use Rattle.run_rules.specs.Steps.{steps_of_host}
use Rattle.run_tokens.specs.Worked.{client, site_one}

-- all words of the tests
unfoldable pub host_words : ℕ
unfolding computed read_look
host_words = 0

pub meets_1 : Does script client (steps_of_host client until_0) step_1
unfolding host_words
meets_1 = host_does site_one script client owner (steps_of_host client until_0) step_1 refl refl

pub meets_3 : Does script client (steps_of_host client until_2) step_3
unfolding host_words
meets_3 = host_does site_one script client owner (steps_of_host client until_2) step_3 refl refl

pub meets_5 : Does script client (steps_of_host client until_4) step_5
unfolding host_words
meets_5 = host_does site_one script client owner (steps_of_host client until_4) step_5 refl refl

pub meets_7 : Does script client (steps_of_host client until_6) step_7
unfolding host_words
meets_7 = host_does site_one script client owner (steps_of_host client until_6) step_7 refl refl

pub meets_9 : Does script client (steps_of_host client until_8) step_9
unfolding host_words
meets_9 = host_does site_one script client owner (steps_of_host client until_8) step_9 refl refl

pub meets_11 : Does script client (steps_of_host client until_10) step_11
unfolding host_words
meets_11 = host_does site_one script client owner (steps_of_host client until_10) step_11 refl refl

pub meets_12 : Does script client (steps_of_host client until_11) step_12
unfolding host_words
meets_12 = host_does site_one script client owner (steps_of_host client until_11) step_12 refl refl

pub meets_14 : Does script client (steps_of_host client until_13) step_14
unfolding host_words
meets_14 = host_does site_one script client owner (steps_of_host client until_13) step_14 refl refl

pub meets_16 : Does script client (steps_of_host client until_15) step_16
unfolding host_words
meets_16 = host_does site_one script client owner (steps_of_host client until_15) step_16 refl refl

pub meets_17 : Does script client (steps_of_host client until_16) step_17
unfolding host_words
meets_17 = host_does site_one script client owner (steps_of_host client until_16) step_17 refl refl

pub meets_19 : Does script client (steps_of_host client until_18) step_19
unfolding host_words
meets_19 = host_does site_one script client owner (steps_of_host client until_18) step_19 refl refl

pub meets_20 : Does script other (steps_of_host other until_19) step_20
unfolding host_words
meets_20 = host_does site_one script other owner (steps_of_host other until_19) step_20 refl refl

pub meets_22 : Does script other (steps_of_host other until_21) step_22
unfolding host_words
meets_22 = host_does site_one script other owner (steps_of_host other until_21) step_22 refl refl

pub meets_24 : Does script other (steps_of_host other until_23) step_24
unfolding host_words
meets_24 = host_does site_one script other owner (steps_of_host other until_23) step_24 refl refl

pub meets_26 : Does script other (steps_of_host other until_25) step_26
unfolding host_words
meets_26 = host_does site_one script other owner (steps_of_host other until_25) step_26 refl refl

pub meets_28 : Does script client (steps_of_host client until_27) step_28
unfolding host_words
meets_28 = host_does site_one script client owner (steps_of_host client until_27) step_28 refl refl

pub meets_30 : Does script client (steps_of_host client until_29) step_30
unfolding host_words
meets_30 = host_does site_one script client owner (steps_of_host client until_29) step_30 refl refl

pub meets_31 : Does script other (steps_of_host other until_30) step_31
unfolding host_words
meets_31 = host_does site_one script other owner (steps_of_host other until_30) step_31 refl refl

pub meets_33 : Does script client (steps_of_host client until_32) step_33
unfolding host_words
meets_33 = host_does site_one script client owner (steps_of_host client until_32) step_33 refl refl

pub meets_35 : Does script other (steps_of_host other until_34) step_35
unfolding host_words
meets_35 = host_does site_one script other owner (steps_of_host other until_34) step_35 refl refl

pub meets_36 : Does script client (steps_of_host client until_35) step_36
unfolding host_words
meets_36 = host_does site_one script client owner (steps_of_host client until_35) step_36 refl refl

pub meets_38 : Does script client (steps_of_host client until_37) step_38
unfolding host_words
meets_38 = host_does site_one script client owner (steps_of_host client until_37) step_38 refl refl

pub meets_39 : Does script other (steps_of_host other until_38) step_39
unfolding host_words
meets_39 = host_does site_one script other owner (steps_of_host other until_38) step_39 refl refl

pub meets_42 : Does script other (steps_of_host other until_41) step_42
unfolding host_words
meets_42 = host_does site_one script other owner (steps_of_host other until_41) step_42 refl refl

pub meets_44 : Does script other (steps_of_host other until_43) step_44
unfolding host_words
meets_44 = host_does site_one script other owner (steps_of_host other until_43) step_44 refl refl

pub meets_45 : Does script client (steps_of_host client until_44) step_45
unfolding host_words
meets_45 = host_does site_one script client owner (steps_of_host client until_44) step_45 refl refl

pub meets_49 : Does script client (steps_of_host client until_48) step_49
unfolding host_words
meets_49 = host_does site_one script client owner (steps_of_host client until_48) step_49 refl refl

pub meets_50 : Does script client (steps_of_host client until_49) step_50
unfolding host_words
meets_50 = host_does site_one script client owner (steps_of_host client until_49) step_50 refl refl

pub meets_52 : Does script client (steps_of_host client until_51) step_52
unfolding host_words
meets_52 = host_does site_one script client owner (steps_of_host client until_51) step_52 refl refl
