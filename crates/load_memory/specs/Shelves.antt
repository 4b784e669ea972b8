-- Definitions of what contracts see of a shelf and its receipts.
use Rattle.boxcar.specs.Table.{Shows}
use Rattle.load_memory.specs.Replies.{ReplyOf, reply_of}
use Rattle.load_memory.specs.declared.shelf.Receipt.{Receipt}
use Rattle.load_memory.specs.declared.shelf.Shelf.{Shelf}

-- the receipt is of this shelf
abbrev pub IsOn : Shelf → Receipt → Type 0
IsOn shelf receipt = Shows shelf.replies receipt.pushed

-- the reply that the receipt shows
abbrev pub shown : Receipt → ReplyOf
shown receipt = reply_of receipt.pushed.value
