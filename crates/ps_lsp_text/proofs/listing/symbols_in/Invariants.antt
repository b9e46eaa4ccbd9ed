use Rattle.std.proofs.Common.{◌≡◌, IsTrue}
use Rattle.ps_lsp_text.specs.Outlining.{AreOutlined, is_within}
use Rattle.ps_lsp_text.specs.Spots.{IsSpot}
use Rattle.ps_lsp_text.proofs.listing.symbols_in.Given as goal

abbrev pub invariant-loop-at : goal.invariant-loop-at
invariant-loop-at l =
    record {
      within : l.within ≡ is_within l.tokens l.at;
      spot : IsSpot l.text l.spot;
      outlined : IsTrue l.list.is_whole → AreOutlined l.text l.tokens l.at l.list.list.items;
    }
