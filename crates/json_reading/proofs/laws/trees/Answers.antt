use Rattle.json_reading.proofs.AsRead.{as_read}
use Rattle.json_reading.proofs.Documents.{IsDocument-data_of, at_name, at_place}
use Rattle.json_reading.proofs.laws.trees.Goals as goal

pub returns-clause-is_document : goal.returns-clause-is_document
returns-clause-is_document c = IsDocument-data_of

pub returns-clause-same_names : goal.returns-clause-same_names
returns-clause-same_names c = at_name

pub returns-clause-same_places : goal.returns-clause-same_places
returns-clause-same_places c = at_place

pub returns-clause-as_read : goal.returns-clause-as_read
returns-clause-as_read c r j d h w = as_read r j d h w
