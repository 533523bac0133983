-- The examples of a server: each test is computed.
use Rattle.tree_filesets.specs.Updates.{updated}
use Rattle.need_host.specs.Shows.{shows}
use Rattle.tree_answers.specs.declared.tree.Tree.{Tree}
use Rattle.message_types.specs.declared.message.Body.{Body}
use Rattle.message_types.specs.declared.message.Body.TheVariants.{Bye, Done, Reclaimed, Restarted}
use Rattle.run_examples.proofs.AnswerTests.{answer_words, step_meets}
use Rattle.run_examples.proofs.GrantWords.{brings, brought_ever, is_below, keeps_none, told_below}
use Rattle.run_examples.proofs.ServerLists.{queue, queue_is}
use Rattle.run_examples.proofs.ServerWords.{admits_host, applied, away, begins, claimant, claimants, down, goes_away}
use Rattle.run_examples.proofs.ServerWords.{is_writable}
use Rattle.run_examples.proofs.ServerWords.{heard, heard_from, here, listed, live, reclaimed, takes_bye, takes_down}
use Rattle.run_examples.proofs.ServerWords.{takes_give, takes_hello}
use Rattle.run_examples.specs.Laws.{restarting, writing}
use Rattle.run_examples.specs.Steps.{admits, answers_bye, calls_again, calls_back, file, file_tree, hears_down}
use Rattle.run_examples.specs.Steps.{hears, hears_empty, hears_misplaced, hears_nameless, hears_returned, other_grant, other_status, other_stops}
use Rattle.run_examples.specs.Steps.{restarts, served, server_lapses}
use Rattle.run_examples.specs.Steps.{shared, stores, stores_and_grants}
use Rattle.script_lines.specs.declared.script.Script.{Script}
use Rattle.std.proofs.Common.{List, [], false, inl, inr, refl, subst, true, ℕ, ◌∷◌, ◌≡◌}
use Rattle.token_types.specs.declared.token.Kind.TheVariants.{Status}
use Rattle.token_types.specs.declared.token.Token.{Token}
use Rattle.tree_laws.specs.Parts.{Part, cell_at}
use Rattle.tree_laws.specs.Parts.Part.{ByteAt, Entries, Size, Traits}
use Rattle.run_rules.specs.Doings.{Doing, doings_of}
use Rattle.run_rules.specs.Kept.{filesets_kept, filesets_through, tree_given}
use Rattle.run_rules.specs.Messages.{IsWelcome, home}
use Rattle.run_rules.specs.Past.{In}
use Rattle.run_rules.specs.ServerDue.{ServerDue}
use Rattle.run_tokens.specs.ServerRest.{ServerMeets}
use Rattle.run_rules.specs.ServerMay.{ServerMay, TellsKept}
use Rattle.run_rules.specs.Views.{part_told}
use Rattle.run_tokens.specs.JournalWorked.{script}
use Rattle.run_tokens.specs.Worked.{client, entered, from_server, site_one, to_host, welcome}
use Rattle.run_rules.specs.declared.applied.Wanted.{Wanted}
use Rattle.run_rules.specs.declared.step.Step.{Step}

-- all words of the tests
unfoldable pub served_words : ℕ
unfolding home tree_given updated takes_down takes_hello down listed takes_bye goes_away away live heard_from heard begins
    admits_host reclaimed is_writable here takes_give applied claimant claimants brings brought_ever is_below told_below keeps_none
    answer_words
served_words = 0

abbrev pub past_of : List Step → List Doing
past_of steps = doings_of 1 site_one steps

-- the rules of a step after others, and that they are met
abbrev Meets : Script → List Step → Step → Type 0
Meets script past s = ServerMeets script file_tree site_one past (past_of past) s

-- what the Grant tells is what is kept then: the length that was given back
abbrev tree_then : Tree
tree_then = filesets_through stores_and_grants.cause stores_and_grants.applied (filesets_kept file_tree site_one (calls_back ∷ shared))

told_part : (part : Part) → shows (Status false) part ≡ true
    → part_told other_grant part ≡ (cell_at tree_then file part).kept
unfolding served_words
told_part (ByteAt at) e = absurd (cc)
told_part Size e = refl
told_part Traits e = refl
told_part Entries e = absurd (cc)

tells : TellsKept tree_then other_grant
tells t part m e = told_part part (subst (λ (x : Token). shows x.kind part ≡ true) (one t m) e)
  where
    one : (t : Token) → In t (other_status ∷ []) → t ≡ other_status
    one t (inl p) = p
    one t (inr p) = elim p [ ]

pub stores_meets : Meets writing served stores
unfolding served_words
stores_meets = step_meets writing file_tree site_one served (past_of served) stores refl (tt, tt) refl

pub stores_lapse : Meets writing (stores ∷ served) (server_lapses [])
unfolding served_words
stores_lapse = step_meets writing file_tree site_one (stores ∷ served) (past_of (stores ∷ served)) (server_lapses []) refl tt refl

pub returned_meets : Meets writing (stores ∷ served) hears_returned
unfolding served_words
returned_meets = step_meets writing file_tree site_one (stores ∷ served) (past_of (stores ∷ served)) hears_returned refl tt refl

pub returned_lapse : Meets writing (hears_returned ∷ stores ∷ served) (server_lapses [])
unfolding served_words
returned_lapse = step_meets writing file_tree site_one (hears_returned ∷ stores ∷ served) (past_of (hears_returned ∷ stores ∷ served)) (server_lapses []) refl tt refl

pub down_meets : Meets writing served hears_down
unfolding served_words
down_meets = step_meets writing file_tree site_one served (past_of served) hears_down refl tt refl

pub down_lapse : Meets writing (hears_down ∷ served) (server_lapses [])
unfolding served_words
down_lapse = step_meets writing file_tree site_one (hears_down ∷ served) (past_of (hears_down ∷ served)) (server_lapses []) refl tt refl

pub bye_meets : Meets writing (hears_returned ∷ stores ∷ served) answers_bye
unfolding served_words
bye_meets = step_meets writing file_tree site_one (hears_returned ∷ stores ∷ served) (past_of (hears_returned ∷ stores ∷ served)) answers_bye refl (tt, tt) refl

pub bye_lapse : Meets writing (answers_bye ∷ hears_returned ∷ stores ∷ served) (server_lapses [])
unfolding served_words
bye_lapse = step_meets writing file_tree site_one (answers_bye ∷ hears_returned ∷ stores ∷ served) (past_of (answers_bye ∷ hears_returned ∷ stores ∷ served)) (server_lapses []) refl tt refl

pub restarts_meets : Meets restarting served restarts
unfolding served_words
restarts_meets = step_meets restarting file_tree site_one served (past_of served) restarts refl (tt, tt) refl

pub restarts_lapse : Meets restarting (restarts ∷ served) (server_lapses (from_server Restarted ∷ []))
unfolding served_words
restarts_lapse = step_meets restarting file_tree site_one (restarts ∷ served) (past_of (restarts ∷ served)) (server_lapses (from_server Restarted ∷ [])) refl (tt, tt) refl

pub admits_meets : Meets restarting (restarts ∷ served) admits
unfolding served_words
admits_meets = step_meets restarting file_tree site_one (restarts ∷ served) (past_of (restarts ∷ served)) admits refl (tt, tt) refl

pub admits_lapse : Meets restarting (admits ∷ restarts ∷ served) (server_lapses [])
unfolding served_words
admits_lapse = step_meets restarting file_tree site_one (admits ∷ restarts ∷ served) (past_of (admits ∷ restarts ∷ served)) (server_lapses []) refl tt refl

pub calls_meets : Meets writing shared calls_back
unfolding served_words
calls_meets = step_meets writing file_tree site_one shared (past_of shared) calls_back refl (tt, tt) refl

pub calls_lapse : Meets writing (calls_back ∷ shared) calls_again
unfolding served_words
calls_lapse = step_meets writing file_tree site_one (calls_back ∷ shared) (past_of (calls_back ∷ shared)) calls_again refl (tt, tt) refl

pub grants_meets : Meets writing (calls_back ∷ shared) stores_and_grants
unfolding served_words
grants_meets = step_meets writing file_tree site_one (calls_back ∷ shared) (past_of (calls_back ∷ shared)) stores_and_grants refl (tt, (tells, tt)) refl

pub grants_lapse : Meets writing (stores_and_grants ∷ calls_back ∷ shared) (server_lapses [])
unfolding served_words
grants_lapse = step_meets writing file_tree site_one (stores_and_grants ∷ calls_back ∷ shared) (past_of (stores_and_grants ∷ calls_back ∷ shared)) (server_lapses []) refl tt refl

abbrev called : List Step
called = calls_back ∷ shared

pub stops_meets : Meets writing called other_stops
unfolding served_words
stops_meets = step_meets writing file_tree site_one called (past_of called) other_stops refl tt refl

abbrev stopped : List Step
stopped = other_stops ∷ called

pub stops_lapse : Meets writing stopped calls_again
unfolding served_words
stops_lapse = step_meets writing file_tree site_one stopped (past_of stopped) calls_again refl (tt, tt) refl

abbrev says : Body → Step
says body = server_lapses (to_host body ∷ [])

-- no cause of the step asks for a Reclaimed
pub unasked : ServerMay writing file_tree site_one served (past_of served) (says (Reclaimed welcome)) → ⊥
unasked m = elim (m.answers.reclaimed_only client welcome (to_host (Reclaimed welcome), inl refl, refl, refl)) [
  | inl x ↦ (let p = x.0.1 in cc)
  | inr x ↦ elim x [ inl y ↦ elim y.1 [ ] | inr y ↦ (let p = y.2.0.1 in cc) ]
]

-- no Change comes, and none waits
pub again : ServerDue writing file_tree site_one served (past_of served) (says (Done entered)) → ⊥
unfolding served_words
again m = elim (m.sent.dones_only client entered (to_host (Done entered), inl refl, refl, refl)).2 [
  | inl x ↦ (let p = x.1.0.1 in cc)
  | inr x ↦ none x.0 (queue_is (past_of served) x.0 x.1)
]
  where
    none : (w : Wanted) → In w (queue (past_of served)) → ⊥
    none w i = elim i [ ]

pub twice : ServerDue writing file_tree site_one served (past_of served)
    (record answers_bye { sent = to_host Bye ∷ to_host Bye ∷ [] }) → ⊥
twice m = m.sent.once.0 (inl refl)

pub ungreeted : IsWelcome (hears (to_host (Reclaimed welcome)) [] [] ∷ []) site_one → ⊥
ungreeted (inl x) = elim x.0.2 [ ]
ungreeted (inr x) = elim x [ ]

pub nameless_meets : Meets writing served hears_nameless
unfolding served_words
nameless_meets = step_meets writing file_tree site_one served (past_of served) hears_nameless refl tt refl

abbrev named_none : List Step
named_none = hears_nameless ∷ served

pub nameless_lapse : Meets writing named_none (server_lapses [])
unfolding served_words
nameless_lapse = step_meets writing file_tree site_one named_none (past_of named_none) (server_lapses []) refl tt refl

pub misplaced_meets : Meets writing served hears_misplaced
unfolding served_words
misplaced_meets = step_meets writing file_tree site_one served (past_of served) hears_misplaced refl tt refl

abbrev misplaced : List Step
misplaced = hears_misplaced ∷ served

pub misplaced_lapse : Meets writing misplaced (server_lapses [])
unfolding served_words
misplaced_lapse = step_meets writing file_tree site_one misplaced (past_of misplaced) (server_lapses []) refl tt refl

pub empty_meets : Meets writing served hears_empty
unfolding served_words
empty_meets = step_meets writing file_tree site_one served (past_of served) hears_empty refl tt refl

abbrev emptied : List Step
emptied = hears_empty ∷ served

pub empty_lapse : Meets writing emptied (server_lapses [])
unfolding served_words
empty_lapse = step_meets writing file_tree site_one emptied (past_of emptied) (server_lapses []) refl tt refl
