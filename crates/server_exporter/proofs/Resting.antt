-- A server stays quiet, and rested, through a doing by which no token is granted, ended or pinned, no want is made or
-- taken from the queue, and no claim comes.
use Rattle.std.proofs.Common.{◌≡◌, Bool, true, false, List, [], ◌∷◌, inl, inr, refl, sym, subst}
use Rattle.std.specs.List.{filter}
use Rattle.base_types.specs.declared.ids.HostId.{HostId}
use Rattle.base_types.specs.declared.ids.ServerId.{ServerId}
use Rattle.tree_answers.specs.declared.tree.Tree.{Tree}
use Rattle.token_types.specs.declared.token.Token.{Token}
use Rattle.run_rules.specs.Doings.{Doing, Granted, Pinned, Reserved}
use Rattle.run_rules.specs.Past.{EachOnce}
use Rattle.run_rules.specs.ServerMay.{IsAskedBack}
use Rattle.run_rules.specs.Wants.{CanDecide, CanGrant, CanRefuse, IsBehind, IsQueued}
use Rattle.run_rules.specs.declared.applied.Wanted.{Wanted}
use Rattle.server_tables.specs.declared.recovering.Claimed.{Claimed}
use Rattle.server_tables.specs.declared.tables.Tables.{Tables}
use Rattle.server_tables.specs.Standing.{IsSettled, Stands}
use Rattle.server_tables.proofs.Resting.{claims_still, waiting_both}
use Rattle.server_tables.proofs.Still.{ClaimsStill, HostsCalm, IsStill, WantsStill, before_still, claims_of}
use Rattle.server_tables.proofs.Still.{granted_back, granted_still, live_still, over_back, reclaimed_was}
use Rattle.server_tables.proofs.Still.{waits_back}
use Rattle.server_tables.proofs.Without.{in_filter}
use Rattle.server_exporter.specs.Machines.{ClaimsWait, IsQuiet, IsRested}

-- claims go on waiting
pub claims_wait : (past : List Doing) (a : Doing) → HostsCalm past a → (claims : List Claimed) → ClaimsWait past claims
    → ClaimsWait (a ∷ past) claims
claims_wait past a calm claims w c i = let p = w c i in
    ((λ r. p.0 (reclaimed_was past a calm c.host p.1.0 r)), live_still past a calm c.host p.1)

pub record IsEven (server : ServerId) (past : List Doing) (a : Doing) : Type 0 where
  pub calm : HostsCalm past a
  pub granted : (t : Token) → Granted server past t → Granted server (a ∷ past) t
  pub granted_was : (t : Token) → Granted server (a ∷ past) t → Granted server past t
  pub pinned_was : (t : Token) → Pinned server (a ∷ past) t → Pinned server past t
  pub wants : WantsStill past a
  pub claims : ClaimsStill server past a

pub even_still : (past : List Doing) (a : Doing) (x : Tables) → Stands past x → IsStill x.server x.stamp past a
    → IsEven x.server past a
even_still past a x s c = record {
  calm = c.hosts.calm;
  granted = granted_still past a c.hosts.calm x.server c.tokens s.tokens.here;
  granted_was = granted_back past a c.hosts.calm x.server c.tokens;
  pinned_was = λ t p. elim p.0 [ inl q ↦ absurd (c.tokens.kept t.host q.0.fid.fileset q.0 q.1) | inr q ↦ q ];
  wants = c.wants;
  claims = claims_of x.server past a c.answers;
}

module _ (server : ServerId) (past : List Doing) (a : Doing) (e : IsEven server past a) (none : (t : Token)
    → Reserved past t → ⊥) where
  pub waits : (w : Wanted) → IsQueued (a ∷ past) w → IsQueued past w
  waits w u = waits_back past a e.calm server e.wants w u

  behind : (w : Wanted) → IsBehind past w → IsBehind (a ∷ past) w
  behind w b = let p = waiting_both past b.0 w b.1 in
      (b.0, before_still past a e.calm server e.wants b.0 w p.0 p.1 b.1, b.2)

  pub grant : (w : Wanted) → CanGrant server (a ∷ past) w → CanGrant server past w
  grant w g = record {
    over = over_back past a e.calm g.over;
    free = λ t h. elim h [ inl p ↦ g.free t (inl (e.granted t p)) | inr p ↦ absurd (none t p) ];
    first = λ b. g.first (behind w b);
  }

  refuse : (w : Wanted) → CanRefuse server (a ∷ past) w → CanRefuse server past w
  refuse w g = record {
    over = over_back past a e.calm g.over;
    pinned = (g.pinned.0, e.pinned_was g.pinned.0 g.pinned.1, g.pinned.2);
    first = λ b. g.first (behind w b);
  }

  pub decide : (w : Wanted) → CanDecide server (a ∷ past) w → CanDecide server past w
  decide w (inl g) = inl (grant w g)
  decide w (inr g) = inr (refuse w g)

  asked : (t : Token) → IsAskedBack server (a ∷ past) t → IsAskedBack server past t
  asked t b = record {
    over = over_back past a e.calm b.over;
    granted = e.granted_was t b.granted;
    unpinned = λ p. b.unpinned (inr p, e.granted t (e.granted_was t b.granted));
    w = b.w;
    waits = waits b.w b.waits;
    blocks_it = b.blocks_it;
  }

  pub quiet_even : (tree : Tree) → IsQuiet server tree past → IsQuiet server tree (a ∷ past)
  quiet_even tree z = record {
    grants = λ w f u is g. z.grants w f (waits w u) is (grant w g);
    uses = λ w c u is label so g. z.uses w c (waits w u) is label so (grant w g);
    others = λ w c u is label so row r. z.others w c (waits w u) is label so row (decide w r);
    enters = λ w c u is enter so g. z.enters w c (waits w u) is enter so (grant w g);
    asked = λ t b. inr (z.asked t (asked t b), e.calm.begin);
    claims = claims_still server past a e.calm e.claims z.claims;
  }

  pub rested_even : (tree : Tree) → IsRested server tree past → IsRested server tree (a ∷ past)
  rested_even tree z = record {
    refused = λ w c refusal u is so r. z.refused w c refusal (waits w u) is so (decide w r);
    effects = λ w c u is effect so r. z.effects w c (waits w u) is effect so (decide w r);
    pinned = λ w c u is row so r. z.pinned w c (waits w u) is row so (refuse w r);
  }

-- a server that is settled is both, whatever it keeps
pub quiet_settled : (server : ServerId) (past : List Doing) → IsSettled server past → (tree : Tree)
    → IsQuiet server tree past
quiet_settled server past z tree = record {
  grants = λ w f u is g. z.rested w u (inl g);
  uses = λ w c u is label so g. z.rested w u (inl g);
  others = λ w c u is label so row r. z.rested w u r;
  enters = λ w c u is enter so g. z.rested w u (inl g);
  asked = z.asked;
  claims = z.claims;
}

pub rested_settled : (server : ServerId) (past : List Doing) → IsSettled server past → (tree : Tree)
    → IsRested server tree past
rested_settled server past z tree = record {
  refused = λ w c refusal u is so r. z.rested w u r;
  effects = λ w c u is effect so r. z.rested w u r;
  pinned = λ w c u is row so r. z.rested w u (inr r);
}

-- of some hosts, each once, those that pass a test are there once
pub once_filter : (p : HostId → Bool) (hs : List HostId) → EachOnce hs → EachOnce (filter p hs)
once_filter p [] o = tt
once_filter p (h ∷ hs) o = by (once_filter p hs o.1) (p h) refl
  where
    some : p h ≡ true → filter p (h ∷ hs) ≡ h ∷ filter p hs
    some e = rw e refl

    none : p h ≡ false → filter p (h ∷ hs) ≡ filter p hs
    none e = rw e refl

    by : EachOnce (filter p hs) → (b : Bool) → p h ≡ b → EachOnce (filter p (h ∷ hs))
    by rest true e = subst EachOnce (sym (some e)) ((λ m. o.0 (in_filter p h hs m).0), rest)
    by rest false e = subst EachOnce (sym (none e)) rest
