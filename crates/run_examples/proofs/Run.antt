-- The run is a run of its script.
use Rattle.base_types.specs.declared.ids.Node.TheVariants.{Host, Server}
use Rattle.message_types.specs.declared.message.Body.TheVariants.{Hello}
use Rattle.message_types.specs.declared.message.Message.{Message}
use Rattle.run_examples.proofs.Words.{said}
use Rattle.run_examples.specs.Steps.{other}
use Rattle.run_examples.proofs.HostSteps.{meets_1, meets_11, meets_12, meets_14, meets_16, meets_17, meets_19, meets_20}
use Rattle.run_examples.proofs.HostSteps.{meets_22, meets_24, meets_26, meets_28, meets_3, meets_30, meets_31, meets_33}
use Rattle.run_examples.proofs.HostSteps.{meets_35, meets_36, meets_38, meets_39, meets_42, meets_44, meets_45}
use Rattle.run_examples.proofs.HostSteps.{meets_49, meets_5, meets_50, meets_52, meets_7, meets_9}
use Rattle.run_examples.proofs.Prefixes.{until_0, until_1, until_10, until_11, until_12, until_13, until_14, until_15}
use Rattle.run_examples.proofs.Prefixes.{until_16, until_17, until_18, until_19, until_2, until_20, until_21, until_22}
use Rattle.run_examples.proofs.Prefixes.{until_23, until_24, until_25, until_26, until_27, until_28, until_29, until_3}
use Rattle.run_examples.proofs.Prefixes.{until_30, until_31, until_32, until_33, until_34, until_35, until_36, until_37}
use Rattle.run_examples.proofs.Prefixes.{until_38, until_39, until_4, until_40, until_41, until_42, until_43, until_44}
use Rattle.run_examples.proofs.Prefixes.{until_45, until_46, until_47, until_48, until_49, until_5, until_50, until_51}
use Rattle.run_examples.proofs.Prefixes.{until_52, until_6, until_7, until_8, until_9}
use Rattle.run_examples.proofs.RunWords.{by_itself, firsts, flags, is_await, itself_too, no_message, to_a_host}
use Rattle.run_examples.proofs.RunWords.{to_the_server}
use Rattle.run_examples.proofs.ServerSteps.{meets_10, meets_13, meets_15, meets_18, meets_2, meets_21, meets_23}
use Rattle.run_examples.proofs.ServerSteps.{meets_25, meets_27, meets_29, meets_32, meets_34, meets_37, meets_4}
use Rattle.run_examples.proofs.ServerSteps.{meets_40, meets_41, meets_43, meets_46, meets_47, meets_48, meets_51}
use Rattle.run_examples.proofs.ServerSteps.{meets_6, meets_8}
use Rattle.run_examples.proofs.Sound.{are_sound, sound_1, sound_10, sound_11, sound_12, sound_13, sound_14, sound_15}
use Rattle.run_examples.proofs.Sound.{sound_16, sound_17, sound_18, sound_19, sound_2, sound_20, sound_21, sound_22}
use Rattle.run_examples.proofs.Sound.{sound_23, sound_24, sound_25, sound_26, sound_27, sound_28, sound_29, sound_3}
use Rattle.run_examples.proofs.Sound.{sound_30, sound_31, sound_32, sound_33, sound_34, sound_35, sound_36, sound_37}
use Rattle.run_examples.proofs.Sound.{sound_38, sound_39, sound_4, sound_40, sound_41, sound_42, sound_43, sound_44}
use Rattle.run_examples.proofs.Sound.{sound_45, sound_46, sound_47, sound_48, sound_49, sound_5, sound_50, sound_51}
use Rattle.run_examples.proofs.Sound.{sound_52, sound_6, sound_7, sound_8, sound_9}
use Rattle.run_examples.specs.Journal.{script, start, step_1, step_10, step_11, step_12, step_13, step_14, step_15}
use Rattle.run_examples.specs.Journal.{step_16, step_17, step_18, step_19, step_2, step_20, step_21, step_22, step_23}
use Rattle.run_examples.specs.Journal.{step_24, step_25, step_26, step_27, step_28, step_29, step_3, step_30, step_31}
use Rattle.run_examples.specs.Journal.{step_32, step_33, step_34, step_35, step_36, step_37, step_38, step_39, step_4}
use Rattle.run_examples.specs.Journal.{step_40, step_41, step_42, step_43, step_44, step_45, step_46, step_47, step_48}
use Rattle.run_examples.specs.Journal.{step_49, step_5, step_50, step_51, step_52, step_6, step_7, step_8, step_9}
use Rattle.std.proofs.Common.{arith, inl, refl}
use Rattle.run_rules.specs.Runs.{StepsMeet}
use Rattle.run_tokens.specs.Worked.{client, site_one, to_server}
use Rattle.run_rules.specs.declared.step.Cause.{Cause}
use Rattle.run_rules.specs.declared.step.Cause.TheVariants.{Message as Came}
use Rattle.run_rules.specs.declared.step.Step.{Step}

-- the message that is the cause of a step
abbrev pub message_in : Cause → Message
message_in (Came m) = m
message_in _ = to_server 0 Hello

abbrev pub message : Step → Message
message s = message_in s.cause

pub run_1 : StepsMeet script start firsts until_1
unfolding no_message is_await said
run_1 = (tt, ((meets_1.0, by_itself client until_0 step_1 refl), flags until_0 step_1 refl refl, omega arith, are_sound (Host client) step_1.sent sound_1))

pub run_2 : StepsMeet script start firsts until_2
unfolding no_message is_await said
run_2 = (run_1, ((meets_2.may, to_the_server until_1 step_2 0 (message step_2) refl refl refl refl), flags until_1 step_2 refl refl, inl refl, are_sound (Server site_one) step_2.sent sound_2))

pub run_3 : StepsMeet script start firsts until_3
unfolding no_message is_await said
run_3 = (run_2, ((meets_3.0, to_a_host client until_2 step_3 1 (message step_3) refl refl refl refl refl), flags until_2 step_3 refl refl, omega arith, are_sound (Host client) step_3.sent sound_3))

pub run_4 : StepsMeet script start firsts until_4
unfolding no_message is_await said
run_4 = (run_3, ((meets_4.may, to_the_server until_3 step_4 0 (message step_4) refl refl refl refl), flags until_3 step_4 refl refl, inl refl, are_sound (Server site_one) step_4.sent sound_4))

pub run_5 : StepsMeet script start firsts until_5
unfolding no_message is_await said
run_5 = (run_4, ((meets_5.0, to_a_host client until_4 step_5 1 (message step_5) refl refl refl refl refl), flags until_4 step_5 refl refl, omega arith, are_sound (Host client) step_5.sent sound_5))

pub run_6 : StepsMeet script start firsts until_6
unfolding no_message is_await said
run_6 = (run_5, ((meets_6.may, to_the_server until_5 step_6 0 (message step_6) refl refl refl refl), flags until_5 step_6 refl refl, inl refl, are_sound (Server site_one) step_6.sent sound_6))

pub run_7 : StepsMeet script start firsts until_7
unfolding no_message is_await said
run_7 = (run_6, ((meets_7.0, to_a_host client until_6 step_7 1 (message step_7) refl refl refl refl refl), flags until_6 step_7 refl refl, omega arith, are_sound (Host client) step_7.sent sound_7))

pub run_8 : StepsMeet script start firsts until_8
unfolding no_message is_await said
run_8 = (run_7, ((meets_8.may, to_the_server until_7 step_8 0 (message step_8) refl refl refl refl), flags until_7 step_8 refl refl, inl refl, are_sound (Server site_one) step_8.sent sound_8))

pub run_9 : StepsMeet script start firsts until_9
unfolding no_message is_await said
run_9 = (run_8, ((meets_9.0, to_a_host client until_8 step_9 1 (message step_9) refl refl refl refl refl), flags until_8 step_9 refl refl, omega arith, are_sound (Host client) step_9.sent sound_9))

pub run_10 : StepsMeet script start firsts until_10
unfolding no_message is_await said
run_10 = (run_9, ((meets_10.may, to_the_server until_9 step_10 0 (message step_10) refl refl refl refl), flags until_9 step_10 refl refl, inl refl, are_sound (Server site_one) step_10.sent sound_10))

pub run_11 : StepsMeet script start firsts until_11
unfolding no_message is_await said
run_11 = (run_10, ((meets_11.0, to_a_host client until_10 step_11 1 (message step_11) refl refl refl refl refl), flags until_10 step_11 refl refl, omega arith, are_sound (Host client) step_11.sent sound_11))

pub run_12 : StepsMeet script start firsts until_12
unfolding no_message is_await said
run_12 = (run_11, ((meets_12.0, by_itself client until_11 step_12 refl), flags until_11 step_12 refl refl, omega arith, are_sound (Host client) step_12.sent sound_12))

pub run_13 : StepsMeet script start firsts until_13
unfolding no_message is_await said
run_13 = (run_12, ((meets_13.may, itself_too until_12 step_13 refl), flags until_12 step_13 refl refl, inl refl, are_sound (Server site_one) step_13.sent sound_13))

pub run_14 : StepsMeet script start firsts until_14
unfolding no_message is_await said
run_14 = (run_13, ((meets_14.0, to_a_host client until_13 step_14 1 (message step_14) refl refl refl refl refl), flags until_13 step_14 refl refl, omega arith, are_sound (Host client) step_14.sent sound_14))

pub run_15 : StepsMeet script start firsts until_15
unfolding no_message is_await said
run_15 = (run_14, ((meets_15.may, to_the_server until_14 step_15 0 (message step_15) refl refl refl refl), flags until_14 step_15 refl refl, inl refl, are_sound (Server site_one) step_15.sent sound_15))

pub run_16 : StepsMeet script start firsts until_16
unfolding no_message is_await said
run_16 = (run_15, ((meets_16.0, to_a_host client until_15 step_16 1 (message step_16) refl refl refl refl refl), flags until_15 step_16 refl refl, omega arith, are_sound (Host client) step_16.sent sound_16))

pub run_17 : StepsMeet script start firsts until_17
unfolding no_message is_await said
run_17 = (run_16, ((meets_17.0, by_itself client until_16 step_17 refl), flags until_16 step_17 refl refl, omega arith, are_sound (Host client) step_17.sent sound_17))

pub run_18 : StepsMeet script start firsts until_18
unfolding no_message is_await said
run_18 = (run_17, ((meets_18.may, to_the_server until_17 step_18 0 (message step_18) refl refl refl refl), flags until_17 step_18 refl refl, inl refl, are_sound (Server site_one) step_18.sent sound_18))

pub run_19 : StepsMeet script start firsts until_19
unfolding no_message is_await said
run_19 = (run_18, ((meets_19.0, to_a_host client until_18 step_19 1 (message step_19) refl refl refl refl refl), flags until_18 step_19 refl refl, omega arith, are_sound (Host client) step_19.sent sound_19))

pub run_20 : StepsMeet script start firsts until_20
unfolding no_message is_await said
run_20 = (run_19, ((meets_20.0, by_itself other until_19 step_20 refl), flags until_19 step_20 refl refl, omega arith, are_sound (Host other) step_20.sent sound_20))

pub run_21 : StepsMeet script start firsts until_21
unfolding no_message is_await said
run_21 = (run_20, ((meets_21.may, to_the_server until_20 step_21 0 (message step_21) refl refl refl refl), flags until_20 step_21 refl refl, inl refl, are_sound (Server site_one) step_21.sent sound_21))

pub run_22 : StepsMeet script start firsts until_22
unfolding no_message is_await said
run_22 = (run_21, ((meets_22.0, to_a_host other until_21 step_22 1 (message step_22) refl refl refl refl refl), flags until_21 step_22 refl refl, omega arith, are_sound (Host other) step_22.sent sound_22))

pub run_23 : StepsMeet script start firsts until_23
unfolding no_message is_await said
run_23 = (run_22, ((meets_23.may, to_the_server until_22 step_23 0 (message step_23) refl refl refl refl), flags until_22 step_23 refl refl, inl refl, are_sound (Server site_one) step_23.sent sound_23))

pub run_24 : StepsMeet script start firsts until_24
unfolding no_message is_await said
run_24 = (run_23, ((meets_24.0, to_a_host other until_23 step_24 1 (message step_24) refl refl refl refl refl), flags until_23 step_24 refl refl, omega arith, are_sound (Host other) step_24.sent sound_24))

pub run_25 : StepsMeet script start firsts until_25
unfolding no_message is_await said
run_25 = (run_24, ((meets_25.may, to_the_server until_24 step_25 0 (message step_25) refl refl refl refl), flags until_24 step_25 refl refl, inl refl, are_sound (Server site_one) step_25.sent sound_25))

pub run_26 : StepsMeet script start firsts until_26
unfolding no_message is_await said
run_26 = (run_25, ((meets_26.0, to_a_host other until_25 step_26 1 (message step_26) refl refl refl refl refl), flags until_25 step_26 refl refl, omega arith, are_sound (Host other) step_26.sent sound_26))

pub run_27 : StepsMeet script start firsts until_27
unfolding no_message is_await said
run_27 = (run_26, ((meets_27.may, to_the_server until_26 step_27 0 (message step_27) refl refl refl refl), flags until_26 step_27 refl refl, inl refl, are_sound (Server site_one) step_27.sent sound_27))

pub run_28 : StepsMeet script start firsts until_28
unfolding no_message is_await said
run_28 = (run_27, ((meets_28.0, to_a_host client until_27 step_28 1 (message step_28) refl refl refl refl refl), flags until_27 step_28 refl refl, omega arith, are_sound (Host client) step_28.sent sound_28))

pub run_29 : StepsMeet script start firsts until_29
unfolding no_message is_await said
run_29 = (run_28, ((meets_29.may, to_the_server until_28 step_29 0 (message step_29) refl refl refl refl), flags until_28 step_29 refl refl, inl refl, are_sound (Server site_one) step_29.sent sound_29))

pub run_30 : StepsMeet script start firsts until_30
unfolding no_message is_await said
run_30 = (run_29, ((meets_30.0, to_a_host client until_29 step_30 2 (message step_30) refl refl refl refl refl), flags until_29 step_30 refl refl, omega arith, are_sound (Host client) step_30.sent sound_30))

pub run_31 : StepsMeet script start firsts until_31
unfolding no_message is_await said
run_31 = (run_30, ((meets_31.0, to_a_host other until_30 step_31 1 (message step_31) refl refl refl refl refl), flags until_30 step_31 refl refl, omega arith, are_sound (Host other) step_31.sent sound_31))

pub run_32 : StepsMeet script start firsts until_32
unfolding no_message is_await said
run_32 = (run_31, ((meets_32.may, to_the_server until_31 step_32 0 (message step_32) refl refl refl refl), flags until_31 step_32 refl refl, inl refl, are_sound (Server site_one) step_32.sent sound_32))

pub run_33 : StepsMeet script start firsts until_33
unfolding no_message is_await said
run_33 = (run_32, ((meets_33.0, to_a_host client until_32 step_33 1 (message step_33) refl refl refl refl refl), flags until_32 step_33 refl refl, omega arith, are_sound (Host client) step_33.sent sound_33))

pub run_34 : StepsMeet script start firsts until_34
unfolding no_message is_await said
run_34 = (run_33, ((meets_34.may, to_the_server until_33 step_34 0 (message step_34) refl refl refl refl), flags until_33 step_34 refl refl, inl refl, are_sound (Server site_one) step_34.sent sound_34))

pub run_35 : StepsMeet script start firsts until_35
unfolding no_message is_await said
run_35 = (run_34, ((meets_35.0, to_a_host other until_34 step_35 1 (message step_35) refl refl refl refl refl), flags until_34 step_35 refl refl, omega arith, are_sound (Host other) step_35.sent sound_35))

pub run_36 : StepsMeet script start firsts until_36
unfolding no_message is_await said
run_36 = (run_35, ((meets_36.0, by_itself client until_35 step_36 refl), flags until_35 step_36 refl refl, omega arith, are_sound (Host client) step_36.sent sound_36))

pub run_37 : StepsMeet script start firsts until_37
unfolding no_message is_await said
run_37 = (run_36, ((meets_37.may, to_the_server until_36 step_37 0 (message step_37) refl refl refl refl), flags until_36 step_37 refl refl, inl refl, are_sound (Server site_one) step_37.sent sound_37))

pub run_38 : StepsMeet script start firsts until_38
unfolding no_message is_await said
run_38 = (run_37, ((meets_38.0, to_a_host client until_37 step_38 1 (message step_38) refl refl refl refl refl), flags until_37 step_38 refl refl, omega arith, are_sound (Host client) step_38.sent sound_38))

pub run_39 : StepsMeet script start firsts until_39
unfolding no_message is_await said
run_39 = (run_38, ((meets_39.0, by_itself other until_38 step_39 refl), flags until_38 step_39 refl refl, omega arith, are_sound (Host other) step_39.sent sound_39))

pub run_40 : StepsMeet script start firsts until_40
unfolding no_message is_await said
run_40 = (run_39, ((meets_40.may, to_the_server until_39 step_40 0 (message step_40) refl refl refl refl), flags until_39 step_40 refl refl, inl refl, are_sound (Server site_one) step_40.sent sound_40))

pub run_41 : StepsMeet script start firsts until_41
unfolding no_message is_await said
run_41 = (run_40, ((meets_41.may, to_the_server until_40 step_41 1 (message step_41) refl refl refl refl), flags until_40 step_41 refl refl, inl refl, are_sound (Server site_one) step_41.sent sound_41))

pub run_42 : StepsMeet script start firsts until_42
unfolding no_message is_await said
run_42 = (run_41, ((meets_42.0, by_itself other until_41 step_42 refl), flags until_41 step_42 refl refl, omega arith, are_sound (Host other) step_42.sent sound_42))

pub run_43 : StepsMeet script start firsts until_43
unfolding no_message is_await said
run_43 = (run_42, ((meets_43.may, to_the_server until_42 step_43 0 (message step_43) refl refl refl refl), flags until_42 step_43 refl refl, inl refl, are_sound (Server site_one) step_43.sent sound_43))

pub run_44 : StepsMeet script start firsts until_44
unfolding no_message is_await said
run_44 = (run_43, ((meets_44.0, to_a_host other until_43 step_44 1 (message step_44) refl refl refl refl refl), flags until_43 step_44 refl refl, omega arith, are_sound (Host other) step_44.sent sound_44))

pub run_45 : StepsMeet script start firsts until_45
unfolding no_message is_await said
run_45 = (run_44, ((meets_45.0, by_itself client until_44 step_45 refl), flags until_44 step_45 refl refl, omega arith, are_sound (Host client) step_45.sent sound_45))

pub run_46 : StepsMeet script start firsts until_46
unfolding no_message is_await said
run_46 = (run_45, ((meets_46.may, to_the_server until_45 step_46 0 (message step_46) refl refl refl refl), flags until_45 step_46 refl refl, inl refl, are_sound (Server site_one) step_46.sent sound_46))

pub run_47 : StepsMeet script start firsts until_47
unfolding no_message is_await said
run_47 = (run_46, ((meets_47.may, to_the_server until_46 step_47 1 (message step_47) refl refl refl refl), flags until_46 step_47 refl refl, inl refl, are_sound (Server site_one) step_47.sent sound_47))

pub run_48 : StepsMeet script start firsts until_48
unfolding no_message is_await said
run_48 = (run_47, ((meets_48.may, to_the_server until_47 step_48 2 (message step_48) refl refl refl refl), flags until_47 step_48 refl refl, inl refl, are_sound (Server site_one) step_48.sent sound_48))

pub run_49 : StepsMeet script start firsts until_49
unfolding no_message is_await said
run_49 = (run_48, ((meets_49.0, to_a_host client until_48 step_49 5 (message step_49) refl refl refl refl refl), flags until_48 step_49 refl refl, omega arith, are_sound (Host client) step_49.sent sound_49))

pub run_50 : StepsMeet script start firsts until_50
unfolding no_message is_await said
run_50 = (run_49, ((meets_50.0, by_itself client until_49 step_50 refl), flags until_49 step_50 refl refl, omega arith, are_sound (Host client) step_50.sent sound_50))

pub run_51 : StepsMeet script start firsts until_51
unfolding no_message is_await said
run_51 = (run_50, ((meets_51.may, to_the_server until_50 step_51 0 (message step_51) refl refl refl refl), flags until_50 step_51 refl refl, inl refl, are_sound (Server site_one) step_51.sent sound_51))

pub run_52 : StepsMeet script start firsts until_52
unfolding no_message is_await said
run_52 = (run_51, ((meets_52.0, to_a_host client until_51 step_52 1 (message step_52) refl refl refl refl refl), flags until_51 step_52 refl refl, omega arith, are_sound (Host client) step_52.sent sound_52))
