-- What a call makes of a fileset, and what is told of it.
use Rattle.std.specs.Prelude.{◌≡◌, ℕ, Result, Ok, Err}
use Rattle.std.specs.Borrow.{Bor}
use Rattle.base_types.specs.Outcomes.{either}
use Rattle.tree_calls.specs.declared.reply.Refusal.{Refusal}
use Rattle.tree_calls.specs.declared.reply.Reply.{Reply}
use Rattle.tree_calls.specs.declared.reply.Reply.TheVariants.{Ok as Done, Refused}
use Rattle.tree_filesets.specs.declared.fileset.Fileset.{Fileset}
use Rattle.tree_filesets.specs.declared.outcome.NotDone.{NotDone}
use Rattle.tree_filesets.specs.declared.outcome.NotDone.TheVariants.{Refused as RefusedBy, Memory}

-- what a fileset answers to a call: the reply, and the fileset after it
pub record Answered : Type 0 where
  pub reply : Reply
  pub fileset : Fileset

-- a refused call changes nothing
abbrev pub refused : Fileset → Refusal → Answered
refused fileset refusal = record { reply = Refused refusal; fileset = fileset }

-- a call that changes the fileset, where its checks let it
abbrev pub answered : {A : Type 0} → Fileset → Result A Refusal → (A → Fileset) → Answered
answered fileset checked effect =
    either checked (λ found. record { reply = Done; fileset = effect found }) (λ refusal. refused fileset refusal)

-- a call that is only told something, where its checks let it
abbrev pub told : {A : Type 0} → Result A Refusal → (A → Reply) → Reply
told checked tell = either checked tell (λ refusal. Refused refusal)

-- the fileset stays as it is
abbrev pub unchanged : Fileset → Reply → Answered
unchanged fileset reply = record { reply = reply; fileset = fileset }

-- a call did as the definition says; without memory it did nothing
abbrev pub IsAnswer : Result Reply NotDone → Answered → Fileset → Fileset → Type 0
IsAnswer (Ok reply) answer old new = answer ≡ record { reply = reply; fileset = new }
IsAnswer (Err (RefusedBy refusal)) answer old new = (answer ≡ refused old refusal) × (new ≡ old)
IsAnswer (Err Memory) answer old new = new ≡ old

-- a call is replied as the definition says; without memory it isn't
abbrev pub IsReply : Result Reply NotDone → Reply → Type 0
IsReply (Ok reply) expected = expected ≡ reply
IsReply (Err (RefusedBy refusal)) expected = expected ≡ Refused refusal
IsReply (Err Memory) expected = Unit {0}

-- what is found is what the definition says; without memory nothing is
abbrev pub IsFound : {A : Type 0} → Result A NotDone → Result A Refusal → Type 0
IsFound (Ok value) found = found ≡ Ok value
IsFound (Err (RefusedBy refusal)) found = found ≡ Err refusal
IsFound (Err Memory) found = Unit {0}

-- the anode, and what is lent of it, are those of the definition
abbrev pub FindsAt : {X : Type 0} → Result (ℕ × Bor X) Refusal → Result (ℕ × X) Refusal → Type 0
FindsAt (Ok found) expected = expected ≡ Ok (found.0, found.1.now)
FindsAt (Err refusal) expected = expected ≡ Err refusal
