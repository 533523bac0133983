use Rattle.run_history.proofs.ServerLaw.{downs_forget, store_legally}
use Rattle.run_history.proofs.laws.servers_store_legally.Goals as goal

pub returns : goal.returns
returns c = record { stores = store_legally; downs = downs_forget }
