-- The wants that wait were brought by messages that came, also once a step has gone on.
use Rattle.std.proofs.Common.{◌≡◌, ℕ, Bool, List, [], ◌∷◌, ◌++◌, Option, None, Some, refl, sym, ◌∙◌, ap, subst}
use Rattle.std.specs.Prelude.{remove}
use Rattle.tree_calls.specs.declared.part.Status.{Status}
use Rattle.message_types.specs.declared.asking.Change.{Change as ChangeOf}
use Rattle.message_types.specs.declared.asking.Fetch.{Fetch as FetchOf}
use Rattle.message_types.specs.declared.message.Body.TheVariants.{Change}
use Rattle.message_types.specs.declared.message.Message.{Message}
use Rattle.run_rules.specs.Wants.{body_of}
use Rattle.run_rules.specs.declared.applied.Request.{Request}
use Rattle.run_rules.specs.declared.applied.Request.TheVariants.{Change as Changes, Fetch as Asks}
use Rattle.run_rules.specs.declared.applied.Wanted.{Wanted}
use Rattle.store_memory.specs.Reading.{status_told}
use Rattle.store_state.specs.declared.state.StoreState.{StoreState}
use Rattle.tree_calls.specs.declared.reply.Refusal.{Refusal}
use Rattle.base_types.specs.declared.ids.HostId.{HostId}
use Rattle.token_manager.specs.Managers.{wanted}
use Rattle.server_tables.specs.Updates.{unqueued}
use Rattle.server_tables.specs.declared.pending.Pending.{Pending}
use Rattle.server_tables.specs.declared.tables.Tables.{Tables}
use Rattle.server_says.proofs.Chains.{goes_keeps}
use Rattle.server_says.specs.Claiming.{AdmitsOne}
use Rattle.server_says.specs.Draft.{Draft}
use Rattle.server_says.specs.Keepers.{HasBrought}
use Rattle.server_says.specs.Revoking.{Asking, asked, asked_all, askings, not_asked}
use Rattle.server_says.specs.Running.{GoesTo}
use Rattle.server_says.specs.Taking.{Made, made}
use Rattle.server_decides.proofs.Served.{each_end, each_removed, of_each, placed_in}
use Rattle.server_decides.specs.Deciding.{Decides, IsDoing, IsMadeBy, IsPlaced, IsRefusing}
use Rattle.server_decides.specs.Finishing.{IsFinished}
use Rattle.server_decides.specs.Running.{Making, making}
use Rattle.server_decides.specs.Sending.{HasSentAll, IsAfter, Looking, Sends, grant_made, looking, sent_made}
use Rattle.server_decides.specs.Serving.{AreBrought}
use Rattle.server_decides.specs.declared.deciding.Decision.{Decision}
use Rattle.server_decides.specs.declared.deciding.Decision.TheVariants.{Anew, Do, Refuse}
use Rattle.server_decides.specs.declared.sending.Sending.{Sending}
use Rattle.server_decides.specs.declared.sending.Sending.TheVariants.{Grant, Say, Use}

module _ (came : List Message) where
  abbrev IsBrought : Pending → Type 0
  IsBrought p = HasBrought came p.wanted.host (body_of p.wanted.request)

  abbrev AllBrought : Tables → Type 0
  AllBrought x = AreBrought came x.pending

  -- so was the want at a place
  pub brought_at : (ps : List Pending) (at : ℕ) (p : Pending) → IsPlaced ps at p → AreBrought came ps → IsBrought p
  brought_at ps at p place all = of_each IsBrought ps all p (placed_in ps at p place)

  -- so was the Change of a want
  pub change_brought : (w : Wanted) (c : ChangeOf) → w.request ≡ Changes c → HasBrought came w.host (body_of w.request)
      → HasBrought came w.host (Change c)
  change_brought w c is its = subst (λ (r : Request). HasBrought came w.host (body_of r)) is its

  -- the wants are the same
  same : (x y z : Tables) → y ≡ z → z.pending ≡ x.pending → AllBrought x → AllBrought y
  same x y z e p all = subst (AreBrought came) (sym (ap (λ (t : Tables). t.pending) e ∙ p)) all

  -- # A Change is decided

  refusing : (x y : Tables) (d e : Draft) (st next : StoreState) (host : HostId) (refusal : Refusal) (r : Request)
      → IsRefusing x d st host refusal y e next r → AllBrought x → AllBrought y
  refusing x y d e st next host refusal (Asks f) h all = same x y _ h.both.tables refl all
  refusing x y d e st next host refusal (Changes c) h all = same x y _ h.both.tables refl all

  doing : (x y : Tables) (d e : Draft) (st next : StoreState) (host : HostId) (r : Request)
      → IsDoing x d st host y e next r → AllBrought x → AllBrought y
  doing x y d e st next host (Asks f) h all = same x y _ h.both.tables refl all
  doing x y d e st next host (Changes c) h all = same x y _ h.both.tables refl all

  made_by : (x y : Tables) (d e : Draft) (st next : StoreState) (p : Pending) (k : Decision)
      → IsMadeBy x d st p y e next k → IsBrought p → AllBrought x → AllBrought y
  made_by x y d e st next p (Refuse refusal) h its all =
      refusing x y d e st next p.wanted.host refusal p.wanted.request h all
  made_by x y d e st next p Do h its all = doing x y d e st next p.wanted.host p.wanted.request h all
  made_by x y d e st next p (Anew needs) h its all =
      subst (λ (t : Tables). AllBrought t) (sym h.0.tables) (each_end IsBrought x.pending _ all its)

  decides : (a b : Making) → AllBrought a.tables → Decides a b → AllBrought b.tables
  decides a b all d =
      made_by (unqueued a.tables d.due.at d.p.number) b.tables a.draft b.draft a.state b.state d.p d.due.decision d.so
      (brought_at a.tables.pending d.due.at d.p d.place all)
      (each_removed IsBrought a.tables.pending d.due.at all)

  pub decides_brought : (a b : Making) → GoesTo Decides a b → AllBrought a.tables → AllBrought b.tables
  decides_brought a b goes all = goes_keeps Decides (λ (k : Making). AllBrought k.tables) decides a b goes all

  -- # A claim is granted

  admits : (a b : Made) → AllBrought a.tables → AdmitsOne a b → AllBrought b.tables
  admits a b all one = same a.tables b.tables _ one.so.tables refl all

  -- # A request is answered

  granted : (x : Tables) (d : Draft) (st : StoreState) (at : ℕ) (p : Pending) (f : FetchOf) (o : Option Status)
      → (grant_made x d st at p f o).tables.pending ≡ remove x.pending at
  granted x d st at p f None = refl
  granted x d st at p f (Some status) = refl

  sent : (x : Tables) (d : Draft) (st : StoreState) (at : ℕ) (p : Pending) (s : Sending)
      → (sent_made x d st at p s).tables.pending ≡ remove x.pending at
  sent x d st at p (Grant f) = granted x d st at p f (status_told st f.fid)
  sent x d st at p (Use fileset number) = refl
  sent x d st at p (Say fileset number outcome) = refl

  after : (st : StoreState) (a b : Looking) (p : Pending) (o : Option Sending) → IsAfter st a p b o
      → AllBrought a.tables → AllBrought b.tables
  after st a b p None e all = subst (λ (k : Looking). AllBrought k.tables) (sym e) all
  after st a b p (Some s) e all =
      subst (λ (k : Looking). AllBrought k.tables) (sym e)
      (subst (AreBrought came) (sym (sent a.tables a.draft st a.at p s))
      (each_removed IsBrought a.tables.pending a.at all))

  sends : (st : StoreState) (a b : Looking) → AllBrought a.tables → Sends st a b → AllBrought b.tables
  sends st a b all s = after st a b s.p s.sending s.so all

  -- # Tokens are asked back

  back : (x : Tables) (rs : List Asking) → AllBrought x → AllBrought (asked_all x rs)
  back x [] all = all
  back x (r ∷ rs) all = back (asked x r.revoke) rs all

  -- # The end of a step

  pub finished_brought : (x y : Tables) (d e : Draft) (st next : StoreState) (rested : Bool)
      → IsFinished x d st y e next rested → AllBrought x → AllBrought y
  finished_brought x y d e st next rested f all =
      let decided : AllBrought f.decided.tables = decides_brought (making x d st) f.decided f.decides all in
      let admitted : AllBrought f.admitted.tables =
      goes_keeps AdmitsOne (λ (m : Made). AllBrought m.tables) admits (made f.decided.tables f.decided.draft) f.admitted
      f.admits decided in
      let looked : AllBrought f.sends.end.tables =
      goes_keeps (Sends f.decided.state) (λ (k : Looking). AllBrought k.tables) (sends f.decided.state)
      (looking f.admitted.tables f.admitted.draft 0) f.sends.end f.sends.goes admitted in
      let told : AllBrought f.sent.tables = subst (λ (t : Tables). AllBrought t) f.sends.tables looked in
      subst (λ (t : Tables). AllBrought t) (sym f.asks.tables)
      (back f.sent.tables (askings f.sent.tables.stamp (not_asked (wanted f.sent.tables.tokens))) told)
