mod Fixed
