-- What is answered again is sound now, as it was when it was answered first.
use Rattle.std.proofs.Common.{◌≡◌, ◌∙◌, ◌==◌, Bool, true, false, not, Option, Some, None, ℕ}
use Rattle.std.proofs.Common.{if◌then◌else◌, ap, refl, subst, sym}
use Rattle.std.specs.List.{find}
use Rattle.std.specs.Option.{option_map}
use Rattle.std.proofs.lemmas.Bool.{and_parts, cases_Bool, eqb-true, false≢true}
use Rattle.std.proofs.Common.{inl, inr}
use Rattle.base_types.specs.declared.ids.FilesetId.{FilesetId}
use Rattle.base_types.specs.declared.ids.HostId.{HostId}
use Rattle.token_types.specs.declared.token.Token.{Token}
use Rattle.token_manager.specs.Grants.{holds}
use Rattle.token_manager.specs.declared.grants.Grants.{Grants}
use Rattle.message_types.specs.Soundness.{IsBrought, IsDone, IsNumbered, IsOutcome, IsSound}
use Rattle.message_types.specs.declared.asking.Change.{Change as ChangeOf}
use Rattle.message_types.specs.declared.giving.Reclaimed.{Reclaimed as ReclaimedOf}
use Rattle.message_types.specs.declared.message.Body.TheVariants.{Done, Reclaimed}
use Rattle.message_types.specs.declared.message.Message.{Message}
use Rattle.message_types.specs.declared.telling.Done.{Done as DoneOf}
use Rattle.message_types.specs.declared.telling.DoneIs.{DoneIs}
use Rattle.message_types.specs.declared.telling.DoneIs.TheVariants.{Again}
use Rattle.run_rules.specs.Past.{In}
use Rattle.server_tables.specs.Answers.{again_of, answer_again, done_without, has_still, is_for_change, is_lost}
use Rattle.server_tables.specs.Answers.{last_change, once_more}
use Rattle.server_tables.specs.Claims.{answer_to}
use Rattle.server_tables.specs.Sound.{AreSound, CanHear}
use Rattle.server_tables.specs.Steps.{to_host}
use Rattle.server_tables.specs.declared.recovering.Answered.{Answered}
use Rattle.server_tables.specs.declared.tables.LastChange.{LastChange}
use Rattle.server_tables.specs.declared.tables.Tables.{Tables}
use Rattle.server_tables.proofs.Again.{same_host}
use Rattle.server_tables.proofs.Eaches.{found_so, of_each, to_each}
use Rattle.server_tables.proofs.Settling.{in_any}
use Rattle.server_tables.proofs.SoundTables.{heard_by, word_sound}

module _ (x : Tables) (s : AreSound x) (host : HostId) where
  -- # What was answered to a claim

  abbrev IsTold : HostId → ReclaimedOf → Type 0
  IsTold h r = IsSound x.roster (to_host x.server h x.hosts.epoch 0 (Reclaimed r))

  pub told_sound : (r : ReclaimedOf) → answer_to x.recovering.answers host ≡ Some r → IsTold host r
  told_sound r q = by (find (λ (a : Answered). a.host.0 == host.0) x.recovering.answers) refl q
    where
      by : (o : Option Answered) → find (λ (a : Answered). a.host.0 == host.0) x.recovering.answers ≡ o
          → option_map (λ (a : Answered). a.answer) o ≡ Some r → IsTold host r
      by None e q = absurd (cc)
      by (Some a) e q =
          let f = found_so (λ (a : Answered). IsTold a.host a.answer) (λ (a : Answered). a.host.0 == host.0)
          x.recovering.answers s.answers a e in
          let its : a.answer ≡ r = cc in
          subst (IsTold host) its (subst (λ (h : HostId). IsTold h a.answer) (same_host a.host host f.1) f.0)

-- # What was answered to a Change

module _ (x : Tables) (host : HostId) (c : CanHear x.server x.roster host) where
  abbrev pub its_word : ℕ → DoneOf → Message
  its_word e done = to_host x.server host e 0 (Done done)

  -- one that brings no token
  pub without_sound : (e : ℕ) (fileset : FilesetId) (outcome : DoneIs) (number : ℕ)
      → IsNumbered (its_word e (done_without fileset outcome number)) fileset
      → IsOutcome x.roster (its_word e (done_without fileset outcome number)) outcome
      → IsSound x.roster (its_word e (done_without fileset outcome number))
  without_sound e fileset outcome number f o =
      word_sound x.server x.roster host e c (Done (done_without fileset outcome number)) refl tt (record {
        fileset = f;
        outcome = o;
        brings = record { tokens = tt; home = λ t ts q. absurd (cc) };
        some = λ t ts q. absurd (cc);
        none = λ q. (refl, refl);
      })

  -- one of whose tokens none is lost
  again_now : (g : Grants) (e n : ℕ) (done : DoneOf) → g.table.epoch ≡ n → is_lost g done.bring ≡ false
      → IsDone x.roster (its_word e done) done → IsSound x.roster (its_word n done)
  again_now g e n done q none d = word_sound x.server x.roster host n c (Done done) refl tt (record {
    fileset = d.fileset;
    outcome = same_outcome done.outcome d.outcome;
    brings = record { tokens = to_each _ done.bring.tokens brought; home = d.brings.home };
    some = d.some;
    none = d.none;
  })
    where
      same_outcome : (o : DoneIs) → IsOutcome x.roster (its_word e done) o → IsOutcome x.roster (its_word n done) o
      same_outcome o p = p

      brought : (t : Token) → In t done.bring.tokens → IsBrought (its_word n done) done.bring.fid t
      brought t i =
          let b = of_each (IsBrought (its_word e done) done.bring.fid) done.bring.tokens d.brings.tokens t i in
          elim (cases_Bool (has_still g t)) [
            | inl h ↦ record {
              own = record { host = b.own.host; server = b.own.server; room = b.own.room };
              file = b.file;
              epoch = eqb-true t.id.epoch g.table.epoch
                  (and_parts (t.id.epoch == g.table.epoch) (holds g t.host t.id) h).0 ∙ q;
            }
            | inr h ↦ absurd (false≢true (sym none
                ∙ in_any (λ (t : Token). not (has_still g t)) t done.bring.tokens i (ap not h)))
          ]

-- a host was answered so in an epoch
abbrev WasSaid : Tables → HostId → ℕ → DoneOf → Type 0
WasSaid x h e done = IsSound x.roster (to_host x.server h e 0 (Done done))

pub again_sound : (x : Tables) (s : AreSound x) (host : HostId) (change : ChangeOf) (d : DoneOf)
    → answer_again x host change ≡ Some d → IsSound x.roster (to_host x.server host x.hosts.epoch 0 (Done d))
again_sound x s host change d q = by (last_change x.changes host change.fileset) refl q
  where
    once : (e : ℕ) (done : DoneOf) → WasSaid x host e done
        → (b : Bool) → is_lost x.tokens.grants done.bring ≡ b
        → WasSaid x host x.hosts.epoch (if b then done_without done.fileset Again done.bring.number else done)
    once e done w true p =
        without_sound x host (heard_by x.server x.roster host e (Done done) w) x.hosts.epoch done.fileset Again
        done.bring.number w.body.fileset tt
    once e done w false p =
        again_now x host (heard_by x.server x.roster host e (Done done) w) x.tokens.grants e x.hosts.epoch done s.epoch
        p w.body

    numbered : (l : LastChange) → WasSaid x host l.epoch l.done → (b : Bool)
        → (if b then Some (once_more x.tokens.grants l.done) else None) ≡ Some d → WasSaid x host x.hosts.epoch d
    numbered l w true p =
        let its : once_more x.tokens.grants l.done ≡ d = cc in
        subst (WasSaid x host x.hosts.epoch) its
        (once l.epoch l.done w (is_lost x.tokens.grants l.done.bring) refl)
    numbered l w false p = absurd (cc)

    by : (o : Option LastChange) → last_change x.changes host change.fileset ≡ o
        → again_of x.tokens.grants change.number o ≡ Some d → WasSaid x host x.hosts.epoch d
    by None e p = absurd (cc)
    by (Some l) e p =
        let f = found_so (λ (c : LastChange). WasSaid x c.host c.epoch c.done) (is_for_change host change.fileset)
        x.changes s.changes l e in
        numbered l (subst (λ (h : HostId). WasSaid x h l.epoch l.done)
        (same_host l.host host (and_parts (l.host.0 == host.0) (l.fileset.0 == change.fileset.0) f.1).0) f.0)
        (l.done.bring.number == change.number) p
