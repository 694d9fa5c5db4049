-- `can::get_front` meets its contract, field by field. Assumes nothing.
use Rattle.can.proofs.front.get_front.Goals as goal

pub returns : goal.returns
returns c =
    λ i. record {
      channel = c.get16.ensures i;
      flags = c.get8.ensures i;
      dlc = c.get8-2.ensures i;
      id = c.get32.ensures i;
    }
