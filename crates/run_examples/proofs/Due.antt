-- In each step of the run what is due is done.
use Rattle.run_examples.proofs.HostSteps.{meets_1, meets_11, meets_12, meets_14, meets_16, meets_17, meets_19}
use Rattle.run_examples.proofs.HostSteps.{meets_20, meets_22, meets_24, meets_26, meets_28, meets_3, meets_30}
use Rattle.run_examples.proofs.HostSteps.{meets_31, meets_33, meets_35, meets_36, meets_38, meets_39, meets_42}
use Rattle.run_examples.proofs.HostSteps.{meets_44, meets_45, meets_49, meets_5, meets_50, meets_52, meets_7, meets_9}
use Rattle.run_examples.proofs.ServerSteps.{meets_2, meets_4, meets_6, meets_8, meets_10, meets_13, meets_15, meets_18, meets_21, meets_23, meets_25, meets_27, meets_29, meets_32, meets_34, meets_37, meets_40, meets_41, meets_43, meets_46, meets_47, meets_48, meets_51}
use Rattle.run_examples.proofs.RunWords.{firsts}
use Rattle.run_examples.specs.Journal.{script, start}
use Rattle.run_examples.proofs.Prefixes.{until_1, until_10, until_11, until_12, until_13, until_14, until_15}
use Rattle.run_examples.proofs.Prefixes.{until_16, until_17, until_18, until_19, until_2, until_20, until_21}
use Rattle.run_examples.proofs.Prefixes.{until_22, until_23, until_24, until_25, until_26, until_27, until_28}
use Rattle.run_examples.proofs.Prefixes.{until_29, until_3, until_30, until_31, until_32, until_33, until_34}
use Rattle.run_examples.proofs.Prefixes.{until_35, until_36, until_37, until_38, until_39, until_4, until_40}
use Rattle.run_examples.proofs.Prefixes.{until_41, until_42, until_43, until_44, until_45, until_46, until_47}
use Rattle.run_examples.proofs.Prefixes.{until_48, until_49, until_5, until_50, until_51, until_52, until_6, until_7}
use Rattle.run_examples.proofs.Prefixes.{until_8, until_9}
use Rattle.std.proofs.Common.{List}
use Rattle.run_rules.specs.Past.{Always}
use Rattle.run_rules.specs.Runs.{StepDue}
use Rattle.run_rules.specs.declared.step.Step.{Step}

abbrev pub AreDutiful : List Step → Type 0
AreDutiful past = Always (λ before s. StepDue script start firsts s.node before s) past

pub due_1 : AreDutiful until_1
due_1 = (tt, meets_1.1)

pub due_2 : AreDutiful until_2
due_2 = (due_1, meets_2.due)

pub due_3 : AreDutiful until_3
due_3 = (due_2, meets_3.1)

pub due_4 : AreDutiful until_4
due_4 = (due_3, meets_4.due)

pub due_5 : AreDutiful until_5
due_5 = (due_4, meets_5.1)

pub due_6 : AreDutiful until_6
due_6 = (due_5, meets_6.due)

pub due_7 : AreDutiful until_7
due_7 = (due_6, meets_7.1)

pub due_8 : AreDutiful until_8
due_8 = (due_7, meets_8.due)

pub due_9 : AreDutiful until_9
due_9 = (due_8, meets_9.1)

pub due_10 : AreDutiful until_10
due_10 = (due_9, meets_10.due)

pub due_11 : AreDutiful until_11
due_11 = (due_10, meets_11.1)

pub due_12 : AreDutiful until_12
due_12 = (due_11, meets_12.1)

pub due_13 : AreDutiful until_13
due_13 = (due_12, meets_13.due)

pub due_14 : AreDutiful until_14
due_14 = (due_13, meets_14.1)

pub due_15 : AreDutiful until_15
due_15 = (due_14, meets_15.due)

pub due_16 : AreDutiful until_16
due_16 = (due_15, meets_16.1)

pub due_17 : AreDutiful until_17
due_17 = (due_16, meets_17.1)

pub due_18 : AreDutiful until_18
due_18 = (due_17, meets_18.due)

pub due_19 : AreDutiful until_19
due_19 = (due_18, meets_19.1)

pub due_20 : AreDutiful until_20
due_20 = (due_19, meets_20.1)

pub due_21 : AreDutiful until_21
due_21 = (due_20, meets_21.due)

pub due_22 : AreDutiful until_22
due_22 = (due_21, meets_22.1)

pub due_23 : AreDutiful until_23
due_23 = (due_22, meets_23.due)

pub due_24 : AreDutiful until_24
due_24 = (due_23, meets_24.1)

pub due_25 : AreDutiful until_25
due_25 = (due_24, meets_25.due)

pub due_26 : AreDutiful until_26
due_26 = (due_25, meets_26.1)

pub due_27 : AreDutiful until_27
due_27 = (due_26, meets_27.due)

pub due_28 : AreDutiful until_28
due_28 = (due_27, meets_28.1)

pub due_29 : AreDutiful until_29
due_29 = (due_28, meets_29.due)

pub due_30 : AreDutiful until_30
due_30 = (due_29, meets_30.1)

pub due_31 : AreDutiful until_31
due_31 = (due_30, meets_31.1)

pub due_32 : AreDutiful until_32
due_32 = (due_31, meets_32.due)

pub due_33 : AreDutiful until_33
due_33 = (due_32, meets_33.1)

pub due_34 : AreDutiful until_34
due_34 = (due_33, meets_34.due)

pub due_35 : AreDutiful until_35
due_35 = (due_34, meets_35.1)

pub due_36 : AreDutiful until_36
due_36 = (due_35, meets_36.1)

pub due_37 : AreDutiful until_37
due_37 = (due_36, meets_37.due)

pub due_38 : AreDutiful until_38
due_38 = (due_37, meets_38.1)

pub due_39 : AreDutiful until_39
due_39 = (due_38, meets_39.1)

pub due_40 : AreDutiful until_40
due_40 = (due_39, meets_40.due)

pub due_41 : AreDutiful until_41
due_41 = (due_40, meets_41.due)

pub due_42 : AreDutiful until_42
due_42 = (due_41, meets_42.1)

pub due_43 : AreDutiful until_43
due_43 = (due_42, meets_43.due)

pub due_44 : AreDutiful until_44
due_44 = (due_43, meets_44.1)

pub due_45 : AreDutiful until_45
due_45 = (due_44, meets_45.1)

pub due_46 : AreDutiful until_46
due_46 = (due_45, meets_46.due)

pub due_47 : AreDutiful until_47
due_47 = (due_46, meets_47.due)

pub due_48 : AreDutiful until_48
due_48 = (due_47, meets_48.due)

pub due_49 : AreDutiful until_49
due_49 = (due_48, meets_49.1)

pub due_50 : AreDutiful until_50
due_50 = (due_49, meets_50.1)

pub due_51 : AreDutiful until_51
due_51 = (due_50, meets_51.due)

pub due_52 : AreDutiful until_52
due_52 = (due_51, meets_52.1)
